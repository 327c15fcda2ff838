pub mod Begin
pub mod One
