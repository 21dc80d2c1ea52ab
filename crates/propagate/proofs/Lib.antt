pub mod Ranks
pub mod Trailing
pub mod Onward
pub mod Telling
