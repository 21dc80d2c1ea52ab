pub mod Earlier
pub mod Firsts
pub mod Locals
pub mod Places
pub mod Repeats
pub mod Rows
