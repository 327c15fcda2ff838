pub mod Grids
pub mod Rules
