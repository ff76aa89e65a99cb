pub mod WordLemmas
pub mod LowLemmas
pub mod LineLemmas
