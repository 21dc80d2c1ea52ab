pub mod Fullness
pub mod Answering
pub mod Dealing
