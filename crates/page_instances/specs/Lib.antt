pub mod Marks
pub mod Seeing
pub mod Scopes
pub mod Taking
pub mod Holding
pub mod Showing
pub mod Assigning
