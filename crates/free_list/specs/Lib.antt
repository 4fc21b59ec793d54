pub mod Free
pub mod Walks
pub mod Cells
pub mod Taken
pub mod Faults
