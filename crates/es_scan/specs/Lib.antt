pub mod Outlines
pub mod Places
pub mod StringLiteral
