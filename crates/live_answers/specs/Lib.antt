pub mod Given
pub mod Media
pub mod Paths
pub mod Replies
pub mod Serving
pub mod Shown
pub mod Taken
pub mod Wants
