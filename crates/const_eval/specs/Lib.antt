pub mod Places
pub mod Names
pub mod Reads
pub mod States
pub mod Stops
pub mod Answers
