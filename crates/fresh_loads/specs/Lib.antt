pub mod Fresh
pub mod Searching
