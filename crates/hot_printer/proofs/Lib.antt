pub mod Blocks
pub mod Params
pub mod Puts
pub mod Rows
