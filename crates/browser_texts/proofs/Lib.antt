pub mod Plain
pub mod Rules
pub mod Walks
