pub mod Roots
pub mod Laws
pub mod Marking
