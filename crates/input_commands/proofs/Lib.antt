pub mod Writing
pub mod Stepping
pub mod Commanding
pub mod Summing
pub mod Recording
