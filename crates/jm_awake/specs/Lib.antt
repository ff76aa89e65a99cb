pub mod Awake
pub mod Added
pub mod Steps
