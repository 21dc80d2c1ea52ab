pub mod Outside
pub mod Paged
