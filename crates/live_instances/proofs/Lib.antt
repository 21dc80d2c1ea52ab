pub mod Order
pub mod Counting
pub mod Living
pub mod Applied
