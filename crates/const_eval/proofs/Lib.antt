mod Ranges
mod Lookups
mod Variables
mod Names
pub mod Rows
