pub mod Waiting
pub mod Calls
pub mod Sessions
