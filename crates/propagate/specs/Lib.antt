pub mod Passing
pub mod Pairs
pub mod Trails
pub mod NameLookup
