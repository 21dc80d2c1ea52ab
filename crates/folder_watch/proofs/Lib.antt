pub mod Looking
pub mod Watching
pub mod Scanning
pub mod Walking
pub mod Editing
