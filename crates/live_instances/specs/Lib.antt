pub mod Orderly
pub mod Counted
