pub mod Lists
pub mod Runs
pub mod Finding
pub mod Taking
pub mod Calls
pub mod Sheets
pub mod Splits
