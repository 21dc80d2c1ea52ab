pub mod Ends
pub mod Crews
pub mod Outs
pub mod Begins
