pub mod Holds
pub mod Moves
pub mod Owed
pub mod Refusals
pub mod Slips
