pub mod Analysing
pub mod Firsts
pub mod Items
pub mod Meanings
