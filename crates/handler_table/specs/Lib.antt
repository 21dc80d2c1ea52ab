pub mod Held
pub mod Shelf
pub mod Handler
pub mod Handlers
