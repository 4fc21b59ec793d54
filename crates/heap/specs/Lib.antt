pub mod Memory
pub mod Sizes
pub mod States
pub mod Tokens
