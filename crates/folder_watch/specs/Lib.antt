pub mod Watched
pub mod Listings
pub mod Scans
pub mod Pending
pub mod Edits
