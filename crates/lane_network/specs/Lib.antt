pub mod Lanes
pub mod Kept
