pub mod Plans
pub mod Live
pub mod Quotes
pub mod Duality
pub mod Rows
pub mod Unique
pub mod Example
