pub mod Gathering
pub mod Making
pub mod Foreseen
pub mod Altering
