pub mod ObjectLemmas
pub mod PlacedLemmas
pub mod PlacingLemmas
pub mod RowLemmas
