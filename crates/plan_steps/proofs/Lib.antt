pub mod Fetched
pub mod Finishing
