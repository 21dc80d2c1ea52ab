pub mod OneHead
pub mod Streams
