pub mod Digits
pub mod Entries
pub mod Taken
pub mod Text
