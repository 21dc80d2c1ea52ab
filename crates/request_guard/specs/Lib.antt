pub mod Hosts
pub mod Admissions
pub mod Media
