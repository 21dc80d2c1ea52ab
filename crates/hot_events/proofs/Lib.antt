mod Rows
pub mod Counts
mod Places
mod Standing
