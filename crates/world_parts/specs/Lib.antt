pub mod Cores
pub mod Greetings
pub mod Jobs
pub mod Replies
pub mod Shelves
pub mod Steps
pub mod Stops
