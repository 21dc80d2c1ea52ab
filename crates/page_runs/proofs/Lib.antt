pub mod Listing
pub mod Runs
pub mod Turns
