pub mod Escapes
pub mod Walks
