pub mod Stops
pub mod Rounds
pub mod Openings
pub mod Causes
pub mod Running
pub mod Serving
