pub mod Addresses
pub mod Styles
