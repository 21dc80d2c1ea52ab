pub mod Exchanges
pub mod Running
pub mod Turning
pub mod Talking
