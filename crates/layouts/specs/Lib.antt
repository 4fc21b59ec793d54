pub mod Types
pub mod Classes
pub mod Rule
pub mod Over
pub mod Mask
pub mod Templates
pub mod Table
pub mod Statements
