mod SweepLemmas
mod PartLemmas
