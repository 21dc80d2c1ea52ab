pub mod Fitting
pub mod Tying
