pub mod Replies
pub mod Obeying
pub mod Session
pub mod Coming
