pub mod ModuleLanguage
pub mod Examples
pub mod Meaning
pub mod Bagless
