pub mod Times
pub mod Told
