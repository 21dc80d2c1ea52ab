pub mod Causes
pub mod Fronts
pub mod Plans
pub mod Pieces
pub mod Memory
pub mod OutCauses
