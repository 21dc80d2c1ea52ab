pub mod Texts
pub mod Numbers
pub mod Replies
pub mod Told
pub mod Lines
pub mod Order
pub mod Reading
pub mod Fit
