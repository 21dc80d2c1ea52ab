pub mod Bodies
pub mod Details
