pub mod LettingGo
pub mod Stores
