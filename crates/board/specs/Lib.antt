pub mod Owing
pub mod Planned
pub mod States
pub mod Rules
pub mod Calls
pub mod Questions
