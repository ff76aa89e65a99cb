pub mod SetLemmas
pub mod NeedLemmas
pub mod ArrivalLemmas
pub mod FillLemmas
pub mod StartLemmas
pub mod MadeLemmas
pub mod RiseLemmas
pub mod ResetLemmas
