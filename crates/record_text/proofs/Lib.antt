pub mod Messages
pub mod Counts
pub mod LineForms
pub mod Passing
pub mod ReadBack
pub mod LinesBack
pub mod TextBack
mod Worked
