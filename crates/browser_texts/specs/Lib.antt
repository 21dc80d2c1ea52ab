pub mod Scripts
pub mod Styles
pub mod Words
