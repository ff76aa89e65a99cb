pub mod Specifications
pub mod Scripts
