pub mod Clients
pub mod Heard
pub mod Inside
pub mod Kept
pub mod Reading
pub mod Loads
