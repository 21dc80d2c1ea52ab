pub mod Applying
pub mod Fetching
