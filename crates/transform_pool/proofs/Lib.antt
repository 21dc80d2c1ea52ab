pub mod Ends
pub mod Halves
pub mod Lefts
pub mod Moves
pub mod Turns
