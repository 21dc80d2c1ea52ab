pub mod Bodies
pub mod FirstEdits
pub mod Stopping
pub mod Writing
