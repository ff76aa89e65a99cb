pub mod RoundLemmas
pub mod ReduceLemmas
pub mod GrammarLemmas
pub mod MadeLemmas
pub mod ReadLemmas
pub mod WrittenLemmas
