pub mod Words
pub mod Numbers
pub mod Parts
pub mod Arguments
pub mod Requests
pub mod Commands
pub mod Buffer
