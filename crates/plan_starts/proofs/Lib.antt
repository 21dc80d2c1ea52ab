pub mod Begun
pub mod Started
