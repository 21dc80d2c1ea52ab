pub mod Coming
pub mod Accepting
pub mod Told
pub mod Jobs
