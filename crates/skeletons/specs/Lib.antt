pub mod Following
pub mod Refusing
pub mod Skeletons
pub mod Texts
pub mod Lists
