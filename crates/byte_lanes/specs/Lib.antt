pub mod Classes
pub mod Sought
pub mod Starts
