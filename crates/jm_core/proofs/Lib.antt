pub mod FlagLemmas
pub mod FitLemmas
pub mod FireLemmas
pub mod ResultLemmas
pub mod CoreLemmas
pub mod ReplayLemmas
