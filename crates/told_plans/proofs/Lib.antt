pub mod Causes
pub mod Lists
