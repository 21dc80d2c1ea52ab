pub mod Plans
pub mod Reading
