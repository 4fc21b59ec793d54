pub mod Numerals
pub mod Buffers
pub mod Outcomes
pub mod Cuts
pub mod Listings
pub mod Readings
pub mod Picking
