pub mod SecondLemmas
pub mod SuffixLemmas
