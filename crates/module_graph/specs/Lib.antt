pub mod Entries
pub mod ReverseIndex
pub mod Paths
pub mod Rows
