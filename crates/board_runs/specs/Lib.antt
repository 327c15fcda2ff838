pub mod Asks
pub mod Steps
pub mod Laws
