pub mod Runs
pub mod Unique
pub mod Laws
pub mod Steps
pub mod Marking
