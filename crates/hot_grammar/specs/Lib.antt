pub mod Items
pub mod Levels
pub mod Parts
pub mod Reads
