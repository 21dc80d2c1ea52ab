pub mod Files
pub mod Readings
pub mod Entries
pub mod Memory
