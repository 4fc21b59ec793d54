pub mod Counts
pub mod Sweeps
pub mod Rooms
pub mod Once
