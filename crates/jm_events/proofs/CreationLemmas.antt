use Rattle.std.proofs.Common.{ℕ, ◌≡◌, ◌≢◌, ◌<◌, ◌+◌, ◌*◌, ◌%◌, ◌^◌, ◌↔◌, inl, inr, Bool, true, false, List, Option, Some, None, option_map, length, get_or, take, slice_get, IsTrue, IsSomeAnd, IsBitSet, bit_and, bit_or, refl, sym, ap, ◌∙◌, arith}
use Rattle.std.proofs.lemmas.Bool.{false≢true, cases_lt}
use Rattle.std.proofs.lemmas.Bool.Decides.{eqb_tells}
use Rattle.std.proofs.lemmas.Nat.{pow_pos}
use Rattle.std.proofs.lemmas.Nat.Bits.{and_pow, bit_at_set_same, bit_at_set_other}
use Rattle.std.proofs.lemmas.Option.{slice_get-get_or, slice_get-map}
use Rattle.std.specs.Int.{bit_at, w32}
use Rattle.jm_events.specs.declared.table.Row.{Row}
use Rattle.jm_events.specs.Events.{EventDefinition}
use Rattle.jm_events.specs.Rows.{events_of}
use Rattle.jm_events.proofs.RowLemmas.{fields-events_of}
use Rattle.jm_events.proofs.NameLemmas.{slice_get-take, slice_get-take_past}

-- the row at a place is that of a creation event
abbrev pub IsMarked : List Row → ℕ → Type 0
IsMarked rows k = IsSomeAnd (slice_get rows k) (λ row. IsTrue row.creation)

-- ---- one bit more

-- the bit that was set
set_here : (n i : ℕ) → i < 32 → IsBitSet (bit_or n (1 * 2 ^ i % 2 ^ 32)) i
set_here n i lt = λ e.
    let one : bit_at (bit_or n (1 * 2 ^ i % 2 ^ 32)) i ≡ 1 = bit_at_set_same w32 n i lt in
    let power : 1 * 2 ^ i ≡ 0 = rw (and_pow (bit_or n (1 * 2 ^ i % 2 ^ 32)) i, one) at e in
    omega (arith, pow_pos i)

-- another bit stays
kept_other : (n i k : ℕ) → i < 32 → k ≢ i → bit_and (bit_or n (1 * 2 ^ i % 2 ^ 32)) (2 ^ k) ≡ bit_and n (2 ^ k)
kept_other n i k lt other = rw (and_pow (bit_or n (1 * 2 ^ i % 2 ^ 32)) k, and_pow n k, bit_at_set_other w32 n i lt k other) refl

-- ---- one row more

-- one more row is no other row
row_other : (rows : List Row) (i k : ℕ) → k ≢ i → slice_get (take (i + 1) rows) k ≡ slice_get (take i rows) k
row_other rows i k other =
    elim (cases_lt k i) [
      | inl lt ↦ slice_get-take (i + 1) k rows (omega arith) ∙ sym (slice_get-take i k rows lt)
      | inr le ↦ slice_get-take_past (i + 1) k rows (omega arith) ∙ sym (slice_get-take_past i k rows le)
    ]

-- the last of the first rows
row_here : (rows : List Row) (i : ℕ) (d : Row) → i < length rows → slice_get (take (i + 1) rows) i ≡ Some (get_or rows i d)
row_here rows i d lt = slice_get-take (i + 1) i rows (omega arith) ∙ slice_get-get_or rows i d lt

-- a creation event more
pub marks_more : (rows : List Row) (letters i : ℕ) (d : Row) → i < length rows → i < 32 → (get_or rows i d).creation ≡ true → ((k : ℕ) → IsBitSet letters k ↔ IsMarked (take i rows) k) → (k : ℕ) → IsBitSet (bit_or letters (1 * 2 ^ i % 2 ^ 32)) k ↔ IsMarked (take (i + 1) rows) k
marks_more rows letters i d lt few marked before k =
    elim (eqb_tells k i) [
      | inl same ↦ rw (same.1, row_here rows i d lt) (λ _. marked, λ _. set_here letters i few)
      | inr other ↦ rw (row_other rows i k other.1, kept_other letters i k few other.1) (before k)
    ]

-- another event more
pub marks_same : (rows : List Row) (letters i : ℕ) (d : Row) → i < length rows → (get_or rows i d).creation ≡ false → ((k : ℕ) → IsBitSet letters k ↔ IsMarked (take i rows) k) → (k : ℕ) → IsBitSet letters k ↔ IsMarked (take (i + 1) rows) k
marks_same rows letters i d lt unmarked before k =
    elim (eqb_tells k i) [
      | inl same ↦ rw (same.1, row_here rows i d lt)
          (λ set. absurd (rw (slice_get-take_past i i rows (omega arith)) at ((before i).0 set)), λ marked. absurd (false≢true (sym unmarked ∙ marked)))
      | inr other ↦ rw (row_other rows i k other.1) (before k)
    ]

-- ---- the events of the rows

-- a test of a value that is there
some_true : {X : Type 0} (f : X → Bool) (o : Option X) → IsSomeAnd o (λ x. IsTrue (f x)) ↔ IsSomeAnd (option_map f o) IsTrue
some_true f None = (λ h. h, λ h. h)
some_true f (Some x) = (λ h. h, λ h. h)

-- a letter's row is marked exactly where its event is a creation event
pub creation-events_of : (names : List (List ℕ)) (rows : List Row) (k : ℕ) → length rows ≡ length names → IsMarked rows k ↔ IsSomeAnd (slice_get (events_of names rows) k) (λ e. IsTrue e.creation)
creation-events_of names rows k each =
    let same : option_map (λ row. row.creation) (slice_get rows k) ≡ option_map (λ e. e.creation) (slice_get (events_of names rows) k) =
    sym (slice_get-map (λ row. row.creation) rows k) ∙ ap (λ bs. slice_get bs k) (sym (fields-events_of (λ e. e.creation) (λ row. row.creation) names rows (λ _ _. refl) each)) ∙ slice_get-map (λ e. e.creation) (events_of names rows) k in
    let of_row = some_true (λ (row : Row). row.creation) (slice_get rows k) in
    let of_event = some_true (λ (e : EventDefinition). e.creation) (slice_get (events_of names rows) k) in
    (λ h. of_event.1 (rw same at (of_row.0 h)), λ h. of_row.1 (rw (← same) at (of_event.0 h)))
