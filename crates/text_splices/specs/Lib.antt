pub mod Places
pub mod Splices
