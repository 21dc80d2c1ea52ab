pub mod Waiting
pub mod Calls
pub mod Sessions
pub mod Dealings
pub mod Desks
pub mod Boards
