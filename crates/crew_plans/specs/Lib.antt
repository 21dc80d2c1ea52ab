pub mod Gathers
pub mod Begun
pub mod Splits
pub mod Lendings
pub mod Endings
pub mod Hubs
