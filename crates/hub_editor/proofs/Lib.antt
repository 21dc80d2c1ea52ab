pub mod LookingBack
pub mod Numbers
pub mod Finding
pub mod Calls
pub mod Openings
pub mod Lasting
pub mod Steps
pub mod Ending
