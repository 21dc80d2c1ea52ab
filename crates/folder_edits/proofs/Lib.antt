pub mod Shortness
pub mod Makings
pub mod Causes
pub mod Works
pub mod Events
pub mod Serving
