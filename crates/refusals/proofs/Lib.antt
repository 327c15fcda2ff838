pub mod Decided
pub mod Runs
