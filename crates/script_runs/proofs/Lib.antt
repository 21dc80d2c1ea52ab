pub mod Playing
pub mod Parts
pub mod Fronts
pub mod Instances
pub mod Logged
pub mod Headline
