pub mod Analysing
pub mod Fault
pub mod Scanning
