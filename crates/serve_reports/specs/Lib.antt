pub mod Logs
pub mod Texts
pub mod Within
