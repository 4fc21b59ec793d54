pub mod Sets
pub mod Model
pub mod Said
pub mod Agrees
pub mod Told
pub mod Spares
pub mod MarksExactly
