pub mod Answers
pub mod Becoming
pub mod Standing
