pub mod NameLemmas
pub mod RowLemmas
pub mod EventLemmas
pub mod CreationLemmas
pub mod ChainLemmas
pub mod HashLemmas
pub mod TextLemmas
