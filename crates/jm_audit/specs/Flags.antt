-- Flags of objects.
use Rattle.std.specs.Prelude.{ℕ, Bool, false, List, Option, Some, None, slice_index_or}

-- whether an object is dead, by the flags of all objects
abbrev pub is_flagged : List Bool → ℕ → Bool
is_flagged flags o = slice_index_or flags o false

-- whether a parameter is bound, and to a dead object
abbrev pub is_flagged_at : List Bool → Option ℕ → Bool
is_flagged_at flags None = false
is_flagged_at flags (Some o) = is_flagged flags o
