pub mod Shown
pub mod Taking
pub mod Answering
pub mod Roots
pub mod Ended
pub mod Telling
