pub mod MachineLemmas
pub mod CompileLemmas
pub mod FaultLemmas
pub mod GrammarLemmas
pub mod MadeLemmas
pub mod ReadLemmas
pub mod WrittenLemmas
pub mod LoopLemmas
