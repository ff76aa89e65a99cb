pub mod Words
pub mod Views
pub mod Spelling
pub mod Line
