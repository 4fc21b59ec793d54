pub mod Sweeping
pub mod Room
pub mod Laws
