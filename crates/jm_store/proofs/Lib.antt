pub mod SlotLemmas
pub mod HousingLemmas
pub mod KeptLemmas
pub mod PlanLemmas
pub mod GivenLemmas
pub mod PartedLemmas
pub mod VisitLemmas
pub mod MoveLemmas
pub mod AfterLemmas
pub mod PlacingLemmas
pub mod CommitLemmas
pub mod OrderLemmas
pub mod PermuteLemmas
pub mod PlanningLemmas
pub mod PassLemmas
pub mod EventLemmas
pub mod FitLemmas
pub mod ListLemmas
pub mod ReportLemmas
pub mod EndingLemmas
pub mod RestLemmas
pub mod RestingLemmas
pub mod SparedLemmas
pub mod StoreLemmas
mod AdvanceLemmas
mod AloneLemmas
mod DirectLemmas
pub mod ListedLemmas
pub mod SettledLemmas
pub mod WalkLemmas
pub mod ShiftLemmas
mod ShiftedLemmas
