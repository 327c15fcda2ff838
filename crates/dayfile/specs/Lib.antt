pub mod Faults
pub mod Marks
pub mod Names
pub mod Reading
pub mod Records
pub mod Texts
