pub mod Record
pub mod Inside
pub mod Answers
pub mod Steps
pub mod Asked
pub mod Forgotten
pub mod Made
pub mod InPlace
