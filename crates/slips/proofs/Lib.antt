pub mod Answered
pub mod Owing
pub mod Tables
pub mod Hands
