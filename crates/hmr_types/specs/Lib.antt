pub mod Event
pub mod ModName
pub mod Results
pub mod Specifier
pub mod Table
