pub mod Sums
pub mod Live
pub mod Duality
pub mod Rows
pub mod Unique
pub mod Example
