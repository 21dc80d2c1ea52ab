pub mod Events
pub mod Names
pub mod Segments
pub mod Tables
mod Worked
