pub mod Plans
pub mod Applied
pub mod Views
pub mod Walking
pub mod Turns
pub mod Numbers
pub mod Renewals
