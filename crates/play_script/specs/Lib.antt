pub mod Texts
pub mod Script
pub mod Spelling
pub mod Asked
pub mod Edits
