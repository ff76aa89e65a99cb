-- How the flags lie in memory by which a sweep passes marks over. An object's spot is one more than its number, and
-- spot 0 is that of none.
use Rattle.std.specs.Prelude.{◌≡◌, ℕ, ◌+◌, ◌-◌, ◌*◌, ◌/◌, ◌%◌, ◌<◌, ◌≤◌, List, Bool, false, Option, Some, None, length, ◌⊎◌, nat_lt, if◌then◌else◌, slice_index, slice_index_or}
use Rattle.std.specs.Int.{bit_at}
use Rattle.jm_marks.specs.Marks.{is_dead_object}

-- what contracts see of a watch: a spot for each mark, a flag for each spot, a number that
-- objects with a flag are below, and how many marks can be added with no memory
pub record Watching : Type 0 where
  pub spots : List ℕ
  pub flags : List ℕ
  pub room : ℕ
  pub spare : ℕ

-- the spot of an object that is below a number, and else 0
abbrev pub spot_of : ℕ → Option ℕ → ℕ
spot_of room None = 0
spot_of room (Some o) = if nat_lt o room then o + 1 else 0

-- the flag of the spot is 0
abbrev pub IsQuiet : List ℕ → ℕ → Type 0
IsQuiet flags s = slice_index_or flags s 1 ≡ 0

-- the spot is that of an object that isn't dead
abbrev pub IsAliveSpot : List Bool → ℕ → Type 0
IsAliveSpot dead s = (0 < s) × (is_dead_object dead (s - 1) ≡ false)

-- only spots of objects that aren't dead have a flag that is 0
abbrev pub AreFresh : List Bool → List ℕ → Type 0
AreFresh dead flags = (s : ℕ) → IsQuiet flags s → IsAliveSpot dead s

-- a flag stays as it is, or becomes a bit
abbrev pub IsSetBy : ℕ → ℕ → ℕ → Type 0
IsSetBy old new bit = (new ≡ old) ⊎ (new ≡ bit)

-- only spots of objects whose bit is 0 in the words have a flag that is 0
pub record AreFlags (flags words : List ℕ) : Type 0 where
  pub room : 64 * length words ≤ length flags - 1
  pub first : IsQuiet flags 0 → ⊥
  pub each : (o : ℕ) → IsQuiet flags (o + 1) → (o / 64 < length words)
      × (bit_at (slice_index words (o / 64)) (o % 64) ≡ 0)

-- each spot has a flag, unless there are no flags and it is 0
abbrev pub AreSpots : List ℕ → List ℕ → Type 0
AreSpots spots flags = (k : ℕ) → slice_index spots k ≤ length flags - 1
