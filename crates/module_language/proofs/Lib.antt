pub mod Binding
pub mod Linking
pub mod Leaving
pub mod Texts
pub mod Reading
pub mod Keeping
pub mod Specifiers
pub mod Bagless
