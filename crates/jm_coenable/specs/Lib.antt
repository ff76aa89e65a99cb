pub mod Needs
pub mod Rounds
pub mod Searches
