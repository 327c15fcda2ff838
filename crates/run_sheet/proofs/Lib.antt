pub mod Carrying
pub mod Chains
pub mod Counting
pub mod Flowing
pub mod Loads
pub mod Lowering
pub mod Nexts
pub mod Split
