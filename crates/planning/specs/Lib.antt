pub mod Found
pub mod Marks
pub mod Plans
pub mod Quotes
