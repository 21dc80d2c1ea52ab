pub mod Edits
pub mod Results
pub mod Openings
pub mod Causes
pub mod Editing
