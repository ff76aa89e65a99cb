use Rattle.std.proofs.Common.{ℕ, ◌≡◌, ◌≢◌, ◌==◌, ◌<◌, ◌≤◌, ◌*◌, ◌/◌, ◌%◌, ◌^◌, ◌↔◌, ◌⊎◌, inl, inr, Bool, true, false, List, [], ◌∷◌, length, get_or, set, filter, replicate, Contains, bit_or, refl, sym, ap, ◌∙◌, arith}
use Rattle.std.specs.List.{range_with_len}
use Rattle.std.specs.Int.{bit_at, w64}
use Rattle.std.proofs.lemmas.Bool.{cases_Bool, eqb-true}
use Rattle.std.proofs.lemmas.Bool.Decides.{eqb_tells}
use Rattle.std.proofs.lemmas.List.{get_or-set_same, get_or-set_other, get_or-replicate, length-set, length-replicate}
use Rattle.std.proofs.lemmas.List.Sums.{length-filter, count_by-le-length}
use Rattle.std.proofs.lemmas.List.FromFn.{get_or-range_with_len, length-range_with_len}
use Rattle.std.proofs.lemmas.Nat.Bits.{bit_at_set_same, bit_at_set_other, bit_at-zero}
use Rattle.std.proofs.lemmas.Nat.{div-add-mod'}
use Rattle.jm_table.specs.NumberSets.{has_number, numbers_of}
use Rattle.jm_table.proofs.FilterLemmas.{Contains-cons_cases, kept_passes, kept_is_there, passing_is_kept}

-- ---- the numbers of words

-- a number is in the set exactly where it has a bit, and its bit is set
pub Contains-numbers_of : (words : List ℕ) (number : ℕ) → Contains (numbers_of words) number ↔ ((number < 64 * length words) × (has_number words number ≡ true))
unfolding numbers_of
Contains-numbers_of words number =
    let room = 64 * length words in (
      λ h. let there = kept_is_there (has_number words) (range_with_len 0 room) number h in
          (omega (arith, there.1, there.2, get_or-range_with_len 0 room there.0 number, length-range_with_len 0 room), kept_passes (has_number words) (range_with_len 0 room) number h),
      λ h. passing_is_kept (has_number words) (range_with_len 0 room) number
          (number, rw (length-range_with_len 0 room) h.0, get_or-range_with_len 0 room number number h.0 ∙ omega arith) h.1,
    )

-- no bit is set in words that are 0
pub no_numbers : (count number : ℕ) → Contains (numbers_of (replicate count 0)) number → ⊥
no_numbers count number h =
    let there = (Contains-numbers_of (replicate count 0) number).0 h in
    let word : ◌≡◌ {A = ℕ} (get_or (replicate count 0) (number / 64) 0) 0 = get_or-replicate count (number / 64) 0 0 (omega (arith, there.0, length-replicate {A = ℕ} count 0)) in
    let bit : (bit_at 0 (number % 64) == 1) ≡ true = rw word at there.1 in
    omega (arith, eqb-true _ _ bit, bit_at-zero (number % 64))

-- ---- how many a filter keeps

kept-le : {X : Type 0} (p : X → Bool) (xs : List X) → length (filter p xs) ≤ length xs
kept-le p xs = omega (arith, length-filter p xs, count_by-le-length p xs)

-- what passes stays, so as many are kept
kept_grow : {X : Type 0} (p q : X → Bool) → ((x : X) → p x ≡ true → q x ≡ true) → (xs : List X) → length (filter p xs) ≤ length (filter q xs)
kept_grow p q wider [] = omega arith
kept_grow p q wider (x ∷ xs) =
    elim (cases_Bool (p x)) [
      | inl passes_it ↦ let also = wider x passes_it in rw (passes_it, also) (omega (arith, kept_grow p q wider xs))
      | inr fails_it ↦ elim (cases_Bool (q x)) [
        | inl passes_it ↦ rw (fails_it, passes_it) (omega (arith, kept_grow p q wider xs))
        | inr neither ↦ rw (fails_it, neither) (kept_grow p q wider xs)
      ]
    ]

-- one more passes, so more are kept
kept_more : {X : Type 0} (p q : X → Bool) → ((x : X) → p x ≡ true → q x ≡ true) → (xs : List X) (y : X) → Contains xs y → p y ≡ false → q y ≡ true
    → length (filter p xs) < length (filter q xs)
kept_more p q wider [] y h fails_it passes_it = absurd (omega (arith, h.1))
kept_more p q wider (x ∷ xs) y h fails_it passes_it =
    elim (Contains-cons_cases x xs y h) [
      | inl e ↦
          let no_here : p x ≡ false = ap p e ∙ fails_it in
          let yes_here : q x ≡ true = ap q e ∙ passes_it in
          rw (no_here, yes_here) (omega (arith, kept_grow p q wider xs))
      | inr there ↦ elim (cases_Bool (p x)) [
        | inl both ↦ let also = wider x both in rw (both, also) (omega (arith, kept_more p q wider xs y there fails_it passes_it))
        | inr none ↦ elim (cases_Bool (q x)) [
          | inl one ↦ rw (none, one) (omega (arith, kept_more p q wider xs y there fails_it passes_it))
          | inr neither ↦ rw (none, neither) (kept_more p q wider xs y there fails_it passes_it)
        ]
      ]
    ]

module _ (words : List ℕ) (number : ℕ) where
  -- the words with the number's bit set
  abbrev pub with_number : List ℕ
  with_number = set words (number / 64) (bit_or (get_or words (number / 64) 0) (1 * 2 ^ (number % 64) % 2 ^ 64))

  its_bit : number / 64 < length words → has_number with_number number ≡ true
  its_bit lt = rw (get_or-set_same words (number / 64) (bit_or (get_or words (number / 64) 0) (1 * 2 ^ (number % 64) % 2 ^ 64)) 0 lt, bit_at_set_same w64 (get_or words (number / 64) 0) (number % 64) (omega arith)) refl

  other_bit : (other : ℕ) → number / 64 < length words → other ≢ number → has_number with_number other ≡ has_number words other
  other_bit other lt differs =
      elim (eqb_tells (other / 64) (number / 64)) [
        | inl same ↦
            let apart : other % 64 ≢ number % 64 = λ e. differs (omega (arith, div-add-mod' other 64, div-add-mod' number 64, same.1)) in
            rw (same.1, get_or-set_same words (number / 64) (bit_or (get_or words (number / 64) 0) (1 * 2 ^ (number % 64) % 2 ^ 64)) 0 lt, bit_at_set_other w64 (get_or words (number / 64) 0) (number % 64) (omega arith) (other % 64) apart) refl
        | inr away ↦ rw (get_or-set_other words (number / 64) (other / 64) (bit_or (get_or words (number / 64) 0) (1 * 2 ^ (number % 64) % 2 ^ 64)) 0 away.1) refl
      ]

  pub number_is_added : number < 64 * length words → (other : ℕ) → Contains (numbers_of with_number) other ↔ (Contains (numbers_of words) other ⊎ (other ≡ number))
  number_is_added few other =
      let lt : number / 64 < length words = omega arith in
      let as_long : length with_number ≡ length words = length-set words (number / 64) _ in
      let before = Contains-numbers_of words other in
      let after = Contains-numbers_of with_number other in
      elim (eqb_tells other number) [
        | inl same ↦ (λ _. inr same.1, λ _. after.1 (rw (same.1, as_long) few, rw (same.1) (its_bit lt)))
        | inr differs ↦
            let kept = other_bit other lt differs.1 in (
              λ h. inl (before.1 (rw as_long at (after.0 h).0, sym kept ∙ (after.0 h).1)),
              elim [ inl h ↦ after.1 (rw as_long (before.0 h).0, kept ∙ (before.0 h).1) | inr e ↦ absurd (differs.1 e) ],
            )
      ]

-- ---- how many numbers there are

-- a number that isn't there makes the set longer
pub number_is_more : (words : List ℕ) (number : ℕ) → number < 64 * length words → (Contains (numbers_of words) number → ⊥)
    → length (numbers_of words) < length (numbers_of (with_number words number))
unfolding numbers_of
number_is_more words number few absent =
    let room = 64 * length words in
    let lt : number / 64 < length words = omega arith in
    let as_long : length (with_number words number) ≡ length words = length-set words (number / 64) _ in
    let wider : (x : ℕ) → has_number words x ≡ true → has_number (with_number words number) x ≡ true = λ x passes_it.
    elim (eqb_tells x number) [
      | inl same ↦ rw (same.1) (its_bit words number lt)
      | inr differs ↦ other_bit words number x lt differs.1 ∙ passes_it
    ] in
    let listed : Contains (range_with_len 0 room) number = (number, rw (length-range_with_len 0 room) few, get_or-range_with_len 0 room number number few ∙ omega arith) in
    elim (cases_Bool (has_number words number)) [
      | inl passes_it ↦ absurd (absent ((Contains-numbers_of words number).1 (few, passes_it)))
      | inr fails_it ↦ rw as_long (kept_more (has_number words) (has_number (with_number words number)) wider (range_with_len 0 room) number listed fails_it (its_bit words number lt))
    ]

pub few_numbers : (words : List ℕ) → length (numbers_of words) ≤ 64 * length words
unfolding numbers_of
few_numbers words = omega (arith, kept-le (has_number words) (range_with_len 0 (64 * length words)), length-range_with_len 0 (64 * length words))
