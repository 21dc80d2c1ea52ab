pub mod ByKind
pub mod Filters
pub mod Places
pub mod Taking
pub mod Gaining
pub mod Losing
pub mod Shown
pub mod Assigning
