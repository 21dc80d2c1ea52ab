pub mod Making
pub mod Summary
