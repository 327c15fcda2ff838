pub mod Sums
pub mod Loops
pub mod Duality
pub mod Ranks
pub mod Pushing
pub mod Checked
mod Growth
pub mod Existence
mod Example
