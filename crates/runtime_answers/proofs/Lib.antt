pub mod Changed
pub mod Full
pub mod Rest
pub mod Sent
pub mod Taken
pub mod Untold
