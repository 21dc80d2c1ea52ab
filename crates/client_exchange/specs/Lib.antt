pub mod Messages
pub mod Replies
