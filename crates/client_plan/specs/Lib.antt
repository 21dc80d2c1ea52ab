pub mod Staging
pub mod Whole
pub mod Renewing
pub mod UnderWay
pub mod Planned
pub mod Unlinked
pub mod Telling
