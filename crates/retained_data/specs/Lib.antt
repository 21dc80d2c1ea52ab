pub mod Bags
pub mod Places
pub mod Runs
