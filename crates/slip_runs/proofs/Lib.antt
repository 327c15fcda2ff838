pub mod Changes
pub mod Moments
pub mod Only
pub mod Steps
pub mod Turns
