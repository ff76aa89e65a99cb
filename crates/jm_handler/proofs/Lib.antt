pub mod BreakLemmas
pub mod RenderLemmas
pub mod TermLemmas
pub mod StatementLemmas
pub mod BlockLemmas
pub mod CutLemmas
pub mod TotalLemmas
