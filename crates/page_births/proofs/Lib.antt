pub mod Births
pub mod EachBirth
pub mod Registering
pub mod Registrations
pub mod Shelves
