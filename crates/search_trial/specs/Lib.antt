pub mod Numbers
pub mod Entries
pub mod Errors
pub mod Reading
pub mod Serving
