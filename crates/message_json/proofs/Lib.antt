pub mod Fields
pub mod Loops
pub mod Said
pub mod Told
pub mod Back
pub mod Ranged
pub mod Causes
pub mod TableText
