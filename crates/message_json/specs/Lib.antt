pub mod Reading
pub mod Words
pub mod ClientReading
pub mod ServerReading
pub mod TableText
