pub mod Ends
pub mod OneAsk
