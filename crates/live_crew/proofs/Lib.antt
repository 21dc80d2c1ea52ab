pub mod Elements
pub mod Counts
pub mod Held
pub mod Attendants
pub mod Outs
pub mod Crews
pub mod Doors
pub mod Passes
