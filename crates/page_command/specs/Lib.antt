pub mod Folder
pub mod Opening
pub mod Pages
pub mod Stops
