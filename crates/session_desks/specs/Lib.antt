pub mod Fullness
pub mod Telling
pub mod Desks
pub mod Boards
