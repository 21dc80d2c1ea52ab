pub mod Bounds
pub mod Kept
pub mod KeptEvents
pub mod Transcripts
