pub mod Deeds
pub mod Laws
pub mod Rules
