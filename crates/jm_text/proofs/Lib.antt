pub mod Cutting
pub mod Names
pub mod Order
pub mod Scans
