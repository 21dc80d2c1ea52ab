pub mod Paths
mod Listings
