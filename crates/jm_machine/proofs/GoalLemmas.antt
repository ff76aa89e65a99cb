-- Creation letters, and handlers that reset, as lists and as bits; and the bits of handlers.
use Rattle.std.proofs.Common.{ℕ, ◌≡◌, ◌≢◌, ◌<◌, ◌+◌, ◌-◌, ◌*◌, ◌/◌, ◌%◌, ◌^◌, ◌⊎◌, inl, inr, suc, zero, Bool, true, false, not, cond, List, [], ◌∷◌, Option, Some, None, Decides, Contains, filter, length, get_or, take, min, slice_get, IsTrue, IsSomeAnd, IsBitSet, bit_and, bit_or, ◌==◌, ◌↔◌, refl, sym, ap, subst, ◌∙◌, arith, zero-add}
use lib.Bits.{and_le_r}
use Rattle.std.specs.List.{range_with_len}
use Rattle.std.specs.Option.{option_map_or}
use Rattle.std.specs.Int.{bit_at, w16}
use Rattle.std.proofs.lemmas.Bool.{false≢true, cases_lt}
use Rattle.std.proofs.lemmas.Bool.Decides.{eqb_tells}
use Rattle.std.proofs.lemmas.Nat.{pow_pos, bit_set_by_shift}
use Rattle.std.proofs.lemmas.Nat.Bits.{and_pow, bit_at_set_same, bit_at_set_other, bit_at-zero, bit_at-lt, bit_at_and, bit_at_above, bit_at_ones, bit_at_ones_above, shr_and_one, same_from_bits}
use Rattle.std.proofs.lemmas.List.Elements.{All-contains, filter_passes, filter_agree}
use Rattle.std.proofs.lemmas.List.FromFn.{length-range_with_len, get_or-range_with_len}
use Rattle.jm_events.specs.Events.{EventDefinition, EventDefinitions, IsCreation}
use Rattle.std.proofs.lemmas.Option.{slice_get_within}
use Rattle.jm_events.proofs.NameLemmas.{slice_get-take, slice_get-take_past}
use Rattle.jm_machine.specs.PropertyMeanings.{is_creation, creation_letters}
use Rattle.jm_machine.specs.CompiledProperties.{has_bit, numbers_of}
use Rattle.jm_machine.proofs.OptionLemmas.{same_bool}

-- ---- one handler more

-- the bit that was set
pub set_here : (n i : ℕ) → i < 16 → IsBitSet (bit_or n (1 * 2 ^ i % 2 ^ 16)) i
set_here n i lt = λ e.
    let one : bit_at (bit_or n (1 * 2 ^ i % 2 ^ 16)) i ≡ 1 = bit_at_set_same w16 n i lt in
    let power : 1 * 2 ^ i ≡ 0 = rw (and_pow (bit_or n (1 * 2 ^ i % 2 ^ 16)) i, one) at e in
    omega (arith, pow_pos i)

-- another bit stays
pub kept_other : (n i k : ℕ) → i < 16 → k ≢ i → bit_and (bit_or n (1 * 2 ^ i % 2 ^ 16)) (2 ^ k) ≡ bit_and n (2 ^ k)
kept_other n i k lt other = rw (and_pow (bit_or n (1 * 2 ^ i % 2 ^ 16)) k, and_pow n k, bit_at_set_other w16 n i lt k other) refl

module _ {X : Type 0} (groups : List X) (P : X → Type 0) (hits i : ℕ) (group : X) (at : slice_get groups i ≡ Some group) where
  -- one more group is no other group
  group_other : (k : ℕ) → k ≢ i → slice_get (take (i + 1) groups) k ≡ slice_get (take i groups) k
  group_other k other =
      elim (cases_lt k i) [
        | inl lt ↦ slice_get-take (i + 1) k groups (omega arith) ∙ sym (slice_get-take i k groups lt)
        | inr le ↦ slice_get-take_past (i + 1) k groups (omega arith) ∙ sym (slice_get-take_past i k groups le)
      ]

  -- the last of the first groups
  group_here : slice_get (take (i + 1) groups) i ≡ Some group
  group_here = slice_get-take (i + 1) i groups (omega arith) ∙ at

  pub hits_more : i < 16 → P group → ((k : ℕ) → IsBitSet hits k ↔ IsSomeAnd (slice_get (take i groups) k) P) → (k : ℕ) → IsBitSet (bit_or hits (1 * 2 ^ i % 2 ^ 16)) k ↔ IsSomeAnd (slice_get (take (i + 1) groups) k) P
  hits_more few holds before k =
      elim (eqb_tells k i) [
        | inl same ↦ rw (same.1, group_here) (λ _. holds, λ _. set_here hits i few)
        | inr other ↦ rw (group_other k other.1, kept_other hits i k few other.1) (before k)
      ]

  pub hits_same : (P group → ⊥) → ((k : ℕ) → IsBitSet hits k ↔ IsSomeAnd (slice_get (take i groups) k) P) → (k : ℕ) → IsBitSet hits k ↔ IsSomeAnd (slice_get (take (i + 1) groups) k) P
  hits_same never before k =
      elim (eqb_tells k i) [
        | inl same ↦ rw (same.1, group_here) (λ set. absurd (rw (slice_get-take_past i i groups (omega arith)) at ((before i).0 set)), λ holds. absurd (never holds))
        | inr other ↦ rw (group_other k other.1) (before k)
      ]

-- ---- numbers as a list

-- what the test of a bit says
pub bit_test : (mask k : ℕ) → Decides (has_bit mask k) (IsBitSet mask k)
bit_test mask k =
    elim (eqb_tells (bit_and mask (2 ^ k)) 0) [
      | inl same ↦ (λ h. absurd (false≢true (sym (ap not same.0) ∙ h)), λ set. absurd (set same.1))
      | inr other ↦ (λ _. other.1, λ _. ap not other.0)
    ]

-- what passes is kept
filter_at : (p : ℕ → Bool) (xs : List ℕ) (x k : ℕ) → p x ≡ true → k < length xs → get_or xs k x ≡ x → Contains (filter p xs) x
filter_at p [] x k pass lt e = absurd (omega (arith, lt))
filter_at p (y ∷ ys) x zero pass lt e =
    let passed : p y ≡ true = ap p e ∙ pass in
    rw passed (0, omega arith, e)
filter_at p (y ∷ ys) x (suc k) pass lt e =
    let rest = filter_at p ys x k pass (omega (arith, lt)) e in
    by_case (p y) rest
  where
    by_case : (b : Bool) → Contains (filter p ys) x → Contains (cond b (y ∷ filter p ys) (filter p ys)) x
    by_case true h = (suc h.0, omega (arith, h.1), h.2)
    by_case false h = h

pub number_in : (mask n k : ℕ) → k < n → IsBitSet mask k → Contains (numbers_of mask n) k
number_in mask n k less set =
    filter_at (has_bit mask) (range_with_len 0 n) k k ((bit_test mask k).1 set) (subst (λ l. k < l) (sym (length-range_with_len 0 n)) less)
    (get_or-range_with_len 0 n k k less ∙ zero-add k)

pub number_set : (mask n k : ℕ) → Contains (numbers_of mask n) k → IsBitSet mask k
number_set mask n k h = (bit_test mask k).0 (All-contains (λ x. has_bit mask x ≡ true) (numbers_of mask n) k (filter_passes (has_bit mask) (range_with_len 0 n)) h)

no_member : (xs : List ℕ) → ((k : ℕ) → Contains xs k → ⊥) → xs ≡ []
no_member [] h = refl
no_member (x ∷ xs) h = absurd (h x (0, omega arith, refl))

-- in 0 no bit is set
pub no_bit : (mask k : ℕ) → mask ≡ 0 → IsBitSet mask k → ⊥
no_bit mask k zero_mask set =
    set (ap (λ m. bit_and m (2 ^ k)) zero_mask ∙ and_pow 0 k ∙ ap (λ b. b * 2 ^ k) (bit_at-zero k) ∙ omega arith)

-- a number of which no bit is set is 0
pub no_bits : (mask : ℕ) → ((k : ℕ) → IsBitSet mask k → ⊥) → mask ≡ 0
no_bits mask never = same_from_bits mask 0 (λ k.
    let at : bit_and (mask / 2 ^ k) 1 ≡ bit_at mask k = shr_and_one mask k in
    let small = bit_at-lt mask k in
    let not_one : bit_at mask k ≢ 1 = λ one. never k ((bit_set_by_shift mask k).0 (at ∙ one)) in
    let none : bit_at mask k ≡ 0 = omega (arith, small, not_one) in
    none ∙ sym (bit_at-zero k))

-- a word may begin with a letter: the bits and the list say the same
pub begins_as_listed : (mask n letter : ℕ) → ((k : ℕ) → IsBitSet mask k → k < n) → ((mask ≡ 0) ⊎ IsBitSet mask letter) ↔ ((numbers_of mask n ≡ []) ⊎ Contains (numbers_of mask n) letter)
begins_as_listed mask n letter below = (
  λ h. elim h [
    | inl zero_mask ↦ inl (no_member (numbers_of mask n) (λ k held. no_bit mask k zero_mask (number_set mask n k held)))
    | inr set ↦ inr (number_in mask n letter (below letter set) set)
  ],
  λ h. elim h [
    | inl none ↦ inl (no_bits mask (λ k set. let held = number_in mask n k (below k set) set in no_place k (subst (λ xs. Contains xs k) none held)))
    | inr held ↦ inr (number_set mask n letter held)
  ],
)
  where
    no_place : (k : ℕ) → Contains {X = ℕ} [] k → ⊥
    no_place k h = omega (arith, h.1)

-- ---- the creation letters of events

creation_test : (o : Option EventDefinition) → Decides (option_map_or (λ (e : EventDefinition). e.creation) o false) (IsSomeAnd o (λ e. IsTrue e.creation))
creation_test None = (λ h. absurd (false≢true h), λ h. absurd h)
creation_test (Some e) = (λ h. h, λ h. h)

pub same_letters : (t : EventDefinitions) (mask : ℕ) → ((k : ℕ) → IsBitSet mask k ↔ IsCreation t k) → numbers_of mask (length t.events) ≡ creation_letters t
same_letters t mask says =
    filter_agree (has_bit mask) (is_creation t)
    (λ k.
    let bit = bit_test mask k in
    let event = creation_test (slice_get t.events k) in
    same_bool (has_bit mask k) (is_creation t k) (λ h. event.1 ((says k).0 (bit.0 h))) (λ h. bit.1 ((says k).1 (event.0 h))))
    (range_with_len 0 (length t.events))

-- a creation letter is one of the letters
pub creation_below : (t : EventDefinitions) (k : ℕ) → IsCreation t k → k < length t.events
creation_below t k h = by_case (slice_get t.events k) refl h
  where
    by_case : (o : Option EventDefinition) → slice_get t.events k ≡ o → IsSomeAnd o (λ e. IsTrue e.creation) → k < length t.events
    by_case None at h = absurd h
    by_case (Some e) at h = slice_get_within t.events k e at

-- ---- bits that two masks have

set_is_one : (mask k : ℕ) → IsBitSet mask k ↔ (bit_at mask k ≡ 1)
set_is_one mask k =
    let shift : bit_and (mask / 2 ^ k) 1 ≡ bit_at mask k = shr_and_one mask k in
    let set = bit_set_by_shift mask k in
    (λ h. sym shift ∙ set.1 h, λ one. set.0 (shift ∙ one))

pub one_is_set : (mask k : ℕ) → (bit_at mask k ≡ 1) ↔ IsBitSet mask k
one_is_set mask k = let is = set_is_one mask k in (is.1, is.0)

both_set : (a b k : ℕ) → IsBitSet (bit_and a b) k ↔ (IsBitSet a k × IsBitSet b k)
both_set a b k =
    let both : bit_at (bit_and a b) k ≡ min (bit_at a k) (bit_at b k) = bit_at_and a b k in
    let in_a = set_is_one a k in
    let in_b = set_is_one b k in
    let in_both = set_is_one (bit_and a b) k in
    let low_a = bit_at-lt a k in
    let low_b = bit_at-lt b k in (
      λ h. let one : min (bit_at a k) (bit_at b k) ≡ 1 = sym both ∙ in_both.0 h in
          (in_a.1 (omega (arith, one, low_a, low_b)), in_b.1 (omega (arith, one, low_a, low_b))),
      λ h. let x = in_a.0 h.0 in
          let y = in_b.0 h.1 in
          in_both.1 (both ∙ omega (arith, x, y)),
    )

-- a number below another whose bit is set, if there is one
find_bit : (mask n : ℕ) → ((k : ℕ) × IsBitSet mask k) ⊎ ((k : ℕ) → k < n → IsBitSet mask k → ⊥)
find_bit mask zero = inr (λ k less set. omega (arith, less))
find_bit mask (suc n) =
    elim (eqb_tells (bit_and mask (2 ^ n)) 0) [
      | inr other ↦ inl (n, other.1)
      | inl same ↦ elim (find_bit mask n) [
        | inl found ↦ inl found
        | inr none ↦ inr (λ k less set.
            elim (cases_lt k n) [
              | inl lt ↦ none k lt set
              | inr le ↦ let is : k ≡ n = omega (arith, less, le) in set (subst (λ j. bit_and mask (2 ^ j) ≡ 0) (sym is) same.1)
            ])
      ]
    ]

-- two masks, of which the second has bits below a number alone, have a bit in common exactly where they aren't apart
pub common_bit : (a b n : ℕ) → ((k : ℕ) → IsBitSet b k → k < n) → (bit_and a b ≢ 0) ↔ ((k : ℕ) × IsBitSet b k × IsBitSet a k)
common_bit a b n below = (
  λ some. elim (find_bit (bit_and a b) n) [
    | inl found ↦ let both = (both_set a b found.0).0 found.1 in (found.0, both.1, both.0)
    | inr none ↦ absurd (some (no_bits (bit_and a b) (λ k set. none k (below k ((both_set a b k).0 set).1) set)))
  ],
  λ h none. no_bit (bit_and a b) h.0 none ((both_set a b h.0).1 (h.2, h.1)),
)

-- a number has bits below another alone exactly where it is below a power of two
pub bits_below : (mask n : ℕ) → mask < 2 ^ n → (k : ℕ) → IsBitSet mask k → k < n
bits_below mask n small k set =
    elim (cases_lt k n) [
      | inl lt ↦ lt
      | inr le ↦ let none = bit_at_above mask n k small le in
          let one = (set_is_one mask k).0 set in
          absurd (omega (arith, none, one))
    ]

pub below_bits : (mask n : ℕ) → ((k : ℕ) → IsBitSet mask k → k < n) → mask < 2 ^ n
below_bits mask n below =
    let same : bit_and mask (2 ^ n - 1) ≡ mask = same_from_bits (bit_and mask (2 ^ n - 1)) mask each in
    let least = and_le_r mask (2 ^ n - 1) in
    omega (arith, same, least, pow_pos n)
  where
    each : (k : ℕ) → bit_at (bit_and mask (2 ^ n - 1)) k ≡ bit_at mask k
    each k =
        let both = bit_at_and mask (2 ^ n - 1) k in
        let low = bit_at-lt mask k in
        elim (cases_lt k n) [
          | inl lt ↦ let one = bit_at_ones n k lt in omega (arith, both, one, low)
          | inr le ↦
              let none = bit_at_ones_above n k le in
              let not_one : bit_at mask k ≢ 1 = λ one. omega (arith, le, below k ((set_is_one mask k).1 one)) in
              omega (arith, both, none, low, not_one)
        ]

pub not_zero : (n : ℕ) → IsTrue (not (n == 0)) ↔ (n ≢ 0)
not_zero n =
    elim (eqb_tells n 0) [
      | inl same ↦ (λ h. absurd (false≢true (sym (ap not same.0) ∙ h)), λ some. absurd (some same.1))
      | inr other ↦ (λ _. other.1, λ _. ap not other.0)
    ]
