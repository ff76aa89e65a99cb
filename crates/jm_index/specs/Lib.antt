pub mod Index
pub mod Entries
pub mod PackedEntries
pub mod Layout
pub mod Keys
pub mod Positions
pub mod Postings
