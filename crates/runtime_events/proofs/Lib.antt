pub mod Asked
pub mod Deeds
pub mod Fired
pub mod Leaving
