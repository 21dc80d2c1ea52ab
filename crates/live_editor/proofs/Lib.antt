pub mod Editing
pub mod Editors
