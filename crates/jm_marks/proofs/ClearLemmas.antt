-- What is left of the bytes where those of dead objects are cleared.
use Rattle.std.proofs.Common.{◌≡◌, ◌≢◌, ℕ, ◌+◌, ◌*◌, ◌/◌, ◌%◌, ◌^◌, ◌<◌, ◌≤◌, ◌==◌, ◌⊎◌, inl, inr, Bool, true, false, cond, not, List, Some, length, get_or, refl, ◌∙◌, ap, arith}
use Rattle.std.specs.Prelude.{bit_and, filter, slice_get}
use Rattle.std.specs.Int.{w64, bit_at, bit_not}
use Rattle.std.proofs.lemmas.Bool.{cases_eq}
use Rattle.std.proofs.lemmas.List.{get_or_past}
use Rattle.std.proofs.lemmas.Nat.Bits.{bit_at_and, bit_at_not, bit_at-lt, bit_at-zero, bit_at_clear_other}
use Rattle.jm_marks.specs.Marks.{is_dead_object, has_live}
use Rattle.jm_marks.specs.Singles.{is_single, singles_of, AreGone, AreDropped}
use Rattle.jm_marks.proofs.FlagLemmas.{alive_by_bit}
use Rattle.jm_marks.proofs.SingleLemmas.{dropped_singles, single_live}

-- an object of a word is still to be looked at, or done
abbrev pub IsUnderway : List Bool → List ℕ → List ℕ → ℕ → ℕ → Type 0
IsUnderway dead old new bit o = ((bit ≡ 1) × (get_or new o 0 ≡ get_or old o 0)) ⊎ AreDropped dead old new o

-- a byte that is 0 is as it is to be
zero_dropped : (dead : List Bool) (old : List ℕ) (o : ℕ) → get_or old o 0 ≡ 0 → AreDropped dead old old o
zero_dropped dead old o none = rw none (at 0 (is_dead_object dead o))
  where
    at : (n : ℕ) (v : Bool) → n ≡ cond v n n
    at n true = refl
    at n false = refl

-- where the object is alive, or its bit says that its byte is 0, there is nothing to clear
pub unset_dropped : (dead : List Bool) (bytes gone words : List ℕ) (i g k : ℕ) → AreGone bytes gone → g ≡ get_or gone i 0 → g < 2 ^ 64 → k < 64
    → ((o : ℕ) → o < length dead → slice_get dead o ≡ Some (bit_at (get_or words (o / 64) 0) (o % 64) == 1))
    → bit_at (bit_and (get_or words i 0) (bit_not w64 g)) k ≡ 0 → AreDropped dead bytes bytes (i * 64 + k)
unset_dropped dead bytes gone words i g k are was few low flags none = elim (cases_eq (bit_at (get_or words i 0) k) 0) [
  | inl unset ↦ rw (alive_by_bit dead (i * 64 + k) (bit_at (get_or words i 0) k) (λ here. rw (← same) (flags (i * 64 + k) here)) unset) refl
  | inr set ↦ elim (cases_eq (bit_at g k) 1) [
    | inl one ↦ zero_dropped dead bytes (i * 64 + k) (are.each (i * 64 + k) (rw (here, at, ← was) one))
    | inr isnt ↦ absurd (omega (arith, set, isnt, none, bit_at_and (get_or words i 0) (bit_not w64 g) k, bit_at_not w64 g k few low, bit_at-lt g k, bit_at-lt (get_or words i 0) k))
  ]
]
  where
    here : (i * 64 + k) / 64 ≡ i
    here = omega (arith, low)

    at : (i * 64 + k) % 64 ≡ k
    at = omega (arith, low)

    same : bit_at (get_or words ((i * 64 + k) / 64) 0) ((i * 64 + k) % 64) ≡ bit_at (get_or words i 0) k
    same = rw (here, at) refl

-- an object without a bit
pub alive_past : (dead : List Bool) (words bytes new : List ℕ) (o : ℕ) → length dead ≤ 64 * length words → length words ≤ o / 64 → get_or new o 0 ≡ get_or bytes o 0 → AreDropped dead bytes new o
alive_past dead words bytes new o room past same = rw (get_or_past dead o false (omega (arith, room, past))) same

-- an object that was looked at
pub underway_cleared : (dead : List Bool) (old bytes new : List ℕ) (i left t k : ℕ) → t < 64 → k < 64 → is_dead_object dead (i * 64 + t) ≡ true
    → get_or new (i * 64 + t) 0 ≡ 0 → ((o : ℕ) → o ≢ i * 64 + t → get_or new o 0 ≡ get_or bytes o 0)
    → IsUnderway dead old bytes (bit_at left k) (i * 64 + k)
    → IsUnderway dead old new (bit_at (bit_and left (bit_not w64 (1 * 2 ^ t % 2 ^ 64))) k) (i * 64 + k)
underway_cleared dead old bytes new i left t k within low is zero others inv = elim (cases_eq k t) [
  | inl same ↦ inr (rw (same, is, zero) refl)
  | inr other ↦ later other inv
]
  where
    later : k ≢ t → IsUnderway dead old bytes (bit_at left k) (i * 64 + k) → IsUnderway dead old new (bit_at (bit_and left (bit_not w64 (1 * 2 ^ t % 2 ^ 64))) k) (i * 64 + k)
    later other (inl (one, was)) = inl (bit_at_clear_other w64 left t within k low other ∙ one, others (i * 64 + k) (λ e. other (omega (arith, e))) ∙ was)
    later other (inr done) = inr (others (i * 64 + k) (λ e. other (omega (arith, e))) ∙ done)

pub underway_passed : (dead : List Bool) (old bytes : List ℕ) (i left t k : ℕ) → t < 64 → k < 64 → is_dead_object dead (i * 64 + t) ≡ false
    → IsUnderway dead old bytes (bit_at left k) (i * 64 + k)
    → IsUnderway dead old bytes (bit_at (bit_and left (bit_not w64 (1 * 2 ^ t % 2 ^ 64))) k) (i * 64 + k)
underway_passed dead old bytes i left t k within low isnt (inr done) = inr done
underway_passed dead old bytes i left t k within low isnt (inl (one, was)) = elim (cases_eq k t) [
  | inl same ↦ inr (rw (same, isnt) (rw same at was))
  | inr other ↦ inl (bit_at_clear_other w64 left t within k low other ∙ one, was)
]

pub underway_end : (dead : List Bool) (old new : List ℕ) (left k o : ℕ) → left ≡ 0 → IsUnderway dead old new (bit_at left k) o → AreDropped dead old new o
underway_end dead old new left k o none (inr done) = done
underway_end dead old new left k o none (inl (one, was)) = let zero : bit_at left k ≡ 0 = rw none (bit_at-zero k) in absurd (omega (arith, zero, one))

-- an object without a byte
pub past_dropped : (dead : List Bool) (old new : List ℕ) (o : ℕ) → length old ≤ o → get_or new o 0 ≡ get_or old o 0 → AreDropped dead old new o
past_dropped dead old new o past same = same ∙ zero_dropped dead old o (get_or_past old o 0 past)

-- the marks that are left are those of live objects
pub singles_dropped : (dead : List Bool) (old new : List ℕ) → length new ≡ length old → ((o : ℕ) → AreDropped dead old new o) → singles_of new ≡ filter (has_live dead) (singles_of old)
singles_dropped dead old new size each = rw size (dropped_singles (has_live dead) old new (8 * length old) (λ i _. rw (each (i / 8), single_live dead (i % 8) (i / 8) (omega arith)) (at i (is_dead_object dead (i / 8)))))
  where
    whole : (v : Bool) → v ≡ cond v true false
    whole true = refl
    whole false = refl

    none : (v : Bool) → false ≡ cond v false false
    none true = refl
    none false = refl

    at : (i : ℕ) (v : Bool) → (bit_at (cond v 0 (get_or old (i / 8) 0)) (i % 8) == 1) ≡ cond (is_single old i) (not v) false
    at i true = rw (bit_at-zero (i % 8)) (none (is_single old i))
    at i false = whole (is_single old i)

pub dropped_since : (dead : List Bool) (old bytes new : List ℕ) (o : ℕ) → get_or bytes o 0 ≡ get_or old o 0 → AreDropped dead bytes new o → AreDropped dead old new o
dropped_since dead old bytes new o same done = done ∙ ap (λ (n : ℕ). cond (is_dead_object dead o) 0 n) same
