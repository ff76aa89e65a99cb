use Rattle.std.specs.Prelude.{ℕ, ◌≡◌, ◌<◌, ◌%◌, List, [], length, Contains, Some, slice_get, slice_index_or}
use Rattle.jm_table.specs.declared.known.TheConstants.{BUCKETS}

-- the bucket of a key: the numbers of the nodes whose keys have the same low bits
abbrev pub bucket_of : List (List ℕ) → ℕ → List ℕ
bucket_of buckets key = slice_index_or buckets (key % BUCKETS) []

-- each number of data that was found is in the bucket of its key, and the buckets have no other numbers
pub record IsIndex {D : Type 0} (key : D → ℕ) (found : List D) (buckets : List (List ℕ)) : Type 0 where
  pub each : (k : ℕ) (d : D) → slice_get found k ≡ Some d → Contains (bucket_of buckets (key d)) k
  pub within : (q k : ℕ) → Contains (bucket_of buckets q) k → k < length found
