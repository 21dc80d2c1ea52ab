pub mod Formed
pub mod Lines
pub mod Walks
pub mod Acts
pub mod Asked
pub mod Worlds
pub mod Courses
pub mod Played
