pub mod Asking
pub mod Exchange
pub mod Course
