pub mod Network
pub mod Theory
pub mod Pushing
pub mod Checker
pub mod Example
