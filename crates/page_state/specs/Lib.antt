pub mod Live
pub mod Settling
pub mod Standing
