pub mod Apart
pub mod Paged
