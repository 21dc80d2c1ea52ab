pub mod Cores
pub mod Greeted
pub mod Issued
mod Issuing
pub mod JobRows
pub mod JobTexts
pub mod Loading
pub mod Replying
pub mod Resting
pub mod Shelving
