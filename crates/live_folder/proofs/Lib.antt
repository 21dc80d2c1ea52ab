pub mod Upto
pub mod Added
