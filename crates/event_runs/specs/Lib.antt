pub mod CoreEvents
pub mod Courses
pub mod Listening
pub mod Logs
pub mod Playing
pub mod Runs
pub mod Steps
