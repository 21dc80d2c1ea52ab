pub mod Told
pub mod Messages
pub mod Asks
pub mod Ends
pub mod Lending
pub mod Lent
pub mod Feeds
