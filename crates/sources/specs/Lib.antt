pub mod Flags
pub mod Slots
pub mod Words
pub mod Asked
pub mod Errors
