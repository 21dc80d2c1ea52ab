pub mod Values
pub mod Words
pub mod ClientText
pub mod ServerText
