pub mod Asking
pub mod Days
pub mod Faults
pub mod Names
pub mod Performing
pub mod Replies
pub mod Sheets
