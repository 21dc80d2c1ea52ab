pub mod Evens
pub mod Totals
