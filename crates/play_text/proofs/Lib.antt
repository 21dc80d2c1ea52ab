pub mod Puts
mod Forms
