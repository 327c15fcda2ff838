pub mod DayNetwork
pub mod DayTheory
