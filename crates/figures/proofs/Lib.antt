pub mod Sources
pub mod Finds
pub mod Steps
pub mod Scans
pub mod Runs
