pub mod Course
pub mod Endings
