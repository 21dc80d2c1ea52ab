mod CoreEvents
mod Hearing
pub mod Keeping
mod Listening
mod Lives
pub mod Logging
mod Presence
pub mod Unheard
