pub mod Fresh
pub mod Keeping
pub mod Moving
pub mod Refusals
pub mod Requests
pub mod Rising
