pub mod Sorting
pub mod Rows
pub mod Sets
pub mod Distinct
pub mod Searches
pub mod Turning
pub mod Marking
pub mod Renewing
