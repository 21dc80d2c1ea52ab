pub mod ByName
pub mod Places
