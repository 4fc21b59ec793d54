pub mod Holds
pub mod Rows
pub mod Calls
pub mod Known
