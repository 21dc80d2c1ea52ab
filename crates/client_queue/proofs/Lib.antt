mod Exchanging
mod Knowing
mod Marking
mod Placing
