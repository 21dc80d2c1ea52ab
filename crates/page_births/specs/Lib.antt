pub mod Births
pub mod EachBirth
