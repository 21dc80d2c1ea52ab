pub mod Told
pub mod Courses
