pub mod Desk
pub mod Names
pub mod Writable
