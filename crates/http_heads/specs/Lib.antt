pub mod Asks
pub mod Cutting
pub mod Head
