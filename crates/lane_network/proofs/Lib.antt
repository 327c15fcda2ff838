pub mod Smallest
pub mod Filled
pub mod Ranked
pub mod Made
pub mod Rates
