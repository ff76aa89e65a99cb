pub mod Names
pub mod Hash
pub mod Chains
pub mod Texts
pub mod Events
pub mod Rows
