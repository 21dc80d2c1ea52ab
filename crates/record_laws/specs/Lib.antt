pub mod Events
pub mod Answers
pub mod Bounds
pub mod Resting
pub mod Course
pub mod Sound
pub mod Told
pub mod Written
