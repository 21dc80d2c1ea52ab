mod Linking
mod Reaching
mod Rows
pub mod Same
