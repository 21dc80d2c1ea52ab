pub mod Plans
pub mod Urls
