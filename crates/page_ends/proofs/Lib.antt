pub mod Each
pub mod Foretold
pub mod Gone
pub mod Meant
pub mod Sounding
