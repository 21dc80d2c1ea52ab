pub mod Addresses
pub mod Growth
