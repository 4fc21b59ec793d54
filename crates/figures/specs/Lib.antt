pub mod Sources
pub mod Runs
pub mod Figures
