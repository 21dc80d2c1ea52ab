pub mod Waits
pub mod Ahead
