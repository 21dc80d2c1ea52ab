pub mod Words
pub mod Shelves
