pub mod Renewing
mod Tabling
