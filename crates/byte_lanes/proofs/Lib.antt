pub mod Feeds
pub mod Lanes
pub mod LineStarts
pub mod Runs
