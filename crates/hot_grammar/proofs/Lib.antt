pub mod Chains
pub mod Flattened
pub mod Hots
pub mod Inners
pub mod Levels
pub mod Listed
pub mod Places
pub mod Repeats
