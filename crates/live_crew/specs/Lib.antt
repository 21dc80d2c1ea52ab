pub mod Held
pub mod Attendants
pub mod Outs
pub mod Crews
pub mod Splits
pub mod Doors
