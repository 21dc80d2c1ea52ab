pub mod Alike
mod Counting
mod Onces
mod Rows
mod Standing
mod Reading
