pub mod Syntax
pub mod Tree
