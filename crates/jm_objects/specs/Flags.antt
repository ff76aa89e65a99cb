-- How the flags of objects lie in memory: flag k is bit k % 64 of word k / 64.
use Rattle.std.specs.Prelude.{ℕ, ◌≡◌, ◌*◌, ◌/◌, ◌%◌, ◌≤◌, ◌==◌, Bool, true, false, List, Some, map, length, slice_get, slice_index}
use Rattle.std.specs.List.{range_with_len}
use Rattle.std.specs.Int.{bit_at}

-- the flag of object k
abbrev pub flag_at : List ℕ → ℕ → Bool
flag_at words k = bit_at (slice_index words (k / 64)) (k % 64) == 1

-- the flags of n objects
unfoldable pub flags_of : ℕ → List ℕ → List Bool
flags_of n words = map (flag_at words) (range_with_len 0 n)

-- the words have a bit for each of n objects
abbrev pub IsRoom : ℕ → List ℕ → Type 0
IsRoom n words = n ≤ 64 * length words

-- there is room, and where it is said that no object is dead none is
pub record AreSoundFlags (n : ℕ) (words : List ℕ) (any_dead : Bool) : Type 0 where
  pub room : IsRoom n words
  pub alive : any_dead ≡ false → (o : ℕ) → slice_get (flags_of n words) o ≡ Some true → ⊥
