pub mod Made
pub mod Places
pub mod Counts
pub mod Appends
pub mod Listings
pub mod Followed
pub mod Written
