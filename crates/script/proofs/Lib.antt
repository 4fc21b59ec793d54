pub mod Texts
pub mod Numbers
pub mod Tables
pub mod Orders
pub mod Mapped
