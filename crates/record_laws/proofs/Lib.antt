pub mod Ranges
pub mod Tables
pub mod Extending
pub mod Simulating
pub mod Taking
pub mod Judging
pub mod Saying
pub mod Recorded
mod Worked
