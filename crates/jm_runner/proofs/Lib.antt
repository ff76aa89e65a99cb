pub mod PlaceLemmas
pub mod TableLemmas
pub mod LineLemmas
pub mod OrderLemmas
pub mod PostLemmas
pub mod NoteLemmas
pub mod WorkLemmas
pub mod RunLemmas
pub mod CrossingLemmas
pub mod ThreadLemmas
mod OrderRows
