pub mod Alike
mod Changing
mod Hearing
mod Keeping
mod Loading
pub mod Looking
mod Numbers
mod Reloads
mod Stepping
mod Upto
