pub mod Steps
pub mod Worlds
pub mod Replaying
pub mod Kept
