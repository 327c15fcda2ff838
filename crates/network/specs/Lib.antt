pub mod Proper
pub mod Limits
pub mod Faults
pub mod Written
pub mod Stored
