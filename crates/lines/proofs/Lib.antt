pub mod Sofar
pub mod Words
pub mod Followed
