pub mod CommentTurns
pub mod LexTurns
pub mod Outcomes
pub mod Places
pub mod Runs
pub mod TextTurns
pub mod Utf8
