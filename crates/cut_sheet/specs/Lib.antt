pub mod Bits
pub mod Sheets
