pub mod Lists
pub mod Places
pub mod Named
pub mod Bytes
pub mod Messages
pub mod Replies
pub mod Agreed
