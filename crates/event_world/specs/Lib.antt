pub mod Logs
pub mod Standing
pub mod Worlds
