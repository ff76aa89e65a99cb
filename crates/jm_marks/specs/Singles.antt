-- The marks of one parameter as they lie in memory: for each object a byte, whose bit p is 1 where the binding of
-- parameter p to the object is a mark.
use Rattle.std.specs.Prelude.{◌≡◌, ℕ, zero, suc, ◌*◌, ◌/◌, ◌%◌, ◌^◌, ◌<◌, ◌≤◌, ◌==◌, cond, Bool, List, [], ◌∷◌, ◌++◌, ◌⊎◌, Contains, length, slice_index}
use Rattle.std.specs.Int.{bit_at}
use Rattle.std.specs.List.Sorted.{IsPermutation}
use Rattle.jm_model.specs.declared.binding.Binding.{Binding}
use Rattle.jm_model.specs.Bindings.{bound, empty}
use Rattle.jm_marks.specs.Marks.{is_dead_object}

-- place n is that of parameter n % 8 and object n / 8
abbrev pub single_at : ℕ → Binding
single_at n = bound empty (n % 8) (n / 8)

-- the bit of place n is 1
abbrev pub is_single : List ℕ → ℕ → Bool
is_single bytes n = bit_at (slice_index bytes (n / 8)) (n % 8) == 1

-- the marks of the first n places
abbrev pub singles_before : List ℕ → ℕ → List Binding
singles_before bytes zero = []
singles_before bytes (suc n) = singles_before bytes n ++ cond (is_single bytes n) (single_at n ∷ []) []

-- the marks of all places
abbrev pub singles_of : List ℕ → List Binding
singles_of bytes = singles_before bytes (8 * length bytes)

-- b binds one parameter
abbrev pub IsSingle : Binding → Type 0
IsSingle b = (p o : ℕ) × (p < 8) × (b ≡ bound empty p o)

-- b binds parameter p to object o alone, which has a byte
pub record IsPlaceOf (bytes : List ℕ) (p o : ℕ) (b : Binding) : Type 0 where
  pub few : p < 8
  pub room : o < length bytes
  pub is : b ≡ bound empty p o

-- b was there and the list is as before, or it is one more
abbrev pub IsAddedTo : List Binding → Binding → List Binding → Type 0
IsAddedTo old b new = (Contains old b × (new ≡ old)) ⊎ ((Contains old b → ⊥) × IsPermutation (b ∷ old) new)

-- there is a bit for each byte, 64 in a word, which is 1 only where the byte is 0, and the words are few
pub record AreGone (bytes gone : List ℕ) : Type 0 where
  pub few : length gone < 2 ^ 20
  pub room : length bytes ≤ 64 * length gone
  pub each : (o : ℕ) → bit_at (slice_index gone (o / 64)) (o % 64) ≡ 1 → slice_index bytes o ≡ 0

-- the byte of object o is 0 where the object is dead, and else as it was
abbrev pub AreDropped : List Bool → List ℕ → List ℕ → ℕ → Type 0
AreDropped dead old new o = slice_index new o ≡ cond (is_dead_object dead o) 0 (slice_index old o)
