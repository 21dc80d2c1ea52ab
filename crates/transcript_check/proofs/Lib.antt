pub mod Speaking
pub mod Entering
pub mod Rooting
pub mod Answering
pub mod Passing
pub mod Written
