pub mod Entries
pub mod Inside
pub mod Standing
pub mod Changes
