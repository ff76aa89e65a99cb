pub mod Stores
pub mod Steps
pub mod Deaths
pub mod Laws
