pub mod Crews
pub mod Lendings
mod Emptied
pub mod Outs
mod Begins
