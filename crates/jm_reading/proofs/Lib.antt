pub mod TokenLemmas
pub mod LoopLemmas
pub mod ManyLemmas
pub mod EventLemmas
pub mod ReadLemmas
pub mod FormulaLemmas
