pub mod Begun
pub mod Ends
pub mod Runs
pub mod Spawners
pub mod Tokens
