pub mod FileNames
pub mod Specifiers
