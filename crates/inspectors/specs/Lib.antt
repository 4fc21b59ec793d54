pub mod Tallies
pub mod Counts
pub mod Lines
pub mod Listings
