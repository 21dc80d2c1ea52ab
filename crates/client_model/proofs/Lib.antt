pub mod Walking
pub mod Acts
pub mod Needs
pub mod Takes
pub mod Bagging
pub mod Staying
