pub mod Lists
pub mod Schedules
pub mod Checker
pub mod Made
pub mod Days
