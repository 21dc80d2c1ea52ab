pub mod Following
pub mod Matching
pub mod Numbers
pub mod Reading
pub mod Standing
pub mod Words
