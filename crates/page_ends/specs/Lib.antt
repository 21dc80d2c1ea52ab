pub mod Each
pub mod Tellings
