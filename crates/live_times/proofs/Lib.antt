pub mod Steps
pub mod Rounds
pub mod Told
