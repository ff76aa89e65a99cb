use Rattle.std.proofs.Common.{ℕ, ◌≡◌, ◌≢◌, ◌==◌, ◌<◌, ◌≤◌, ◌+◌, ◌↔◌, ◌⊎◌, inl, inr, suc, zero, Bool, true, false, cond, not, ltb, ◌||◌, List, [], ◌∷◌, ◌++◌, Option, Some, None, IsNone, length, take, slice_get, position, Contains, Result, Ok, Err, OnOk, IfOk, is_some, option_map, refl, sym, ap, subst, ◌∙◌, arith}
use Rattle.std.specs.List.{IsDistinct, AllByRecursion, list_any, position_or_len}
use Rattle.std.specs.Str.{bytes_eq}
use Rattle.std.specs.Cmp.Lexicographic.{nat_list_eq_equiv}
use Rattle.std.proofs.lemmas.Bool.{false≢true, cases_lt}
use Rattle.std.proofs.lemmas.Map.Keys.{IsDistinct-head, IsDistinct-tail, any_passes_from_place}
use Rattle.std.proofs.lemmas.Bool.Decides.{nat_tests, eqb_tells}
use Rattle.std.proofs.lemmas.List.Quantifiers.{position-Some}
use Rattle.std.proofs.lemmas.Option.{none-some, same_Some, slice_get_within, get_or_from_slice_get, slice_get-get_or}
use Rattle.std.proofs.lemmas.List.{take_more}
use Rattle.std.proofs.lemmas.Slice.Eq.{bytes_eq-Decides}
use Rattle.jm_events.specs.Names.{number_of, with_name}

-- ---- one element more in front

-- the test of `position` where the first element passes
first_place : (n : ℕ) → cond {A = Option ℕ} (ltb 0 (suc n)) (Some 0) None ≡ Some 0
first_place n = grind (arith, nat_tests)

-- the test of `position` where the first element does not pass
later_place : (i n : ℕ) → cond {A = Option ℕ} (ltb (1 + i) (suc n)) (Some (1 + i)) None ≡ option_map suc (cond (ltb i n) (Some i) None)
later_place i n = grind (arith, nat_tests)

-- the first place that passes, in a list with one element more in front
position-cons : {X : Type 0} (p : X → Bool) (x : X) (xs : List X) → position p (x ∷ xs) ≡ cond (p x) (Some 0) (option_map suc (position p xs))
position-cons p x xs =
    let i = position_or_len p xs in
    elim (p x) as (λ b. cond {A = Option ℕ} (ltb (cond (not b) (1 + i) 0) (suc (length xs))) (Some (cond (not b) (1 + i) 0)) None ≡ cond b (Some 0) (option_map suc (position p xs)))
    [ true ↦ first_place (length xs) | false ↦ later_place i (length xs) ]

-- ---- the number of a name

-- what the test of two names says
pub same_name : (a b : List ℕ) → bytes_eq a b ≡ true → a ≡ b
same_name a b e = (bytes_eq-Decides a b).0 e

pub is_same_name : (a b : List ℕ) → a ≡ b → bytes_eq a b ≡ true
is_same_name a b e = (bytes_eq-Decides a b).1 e

-- what holds of each element holds of the one at a place
pub at_place : {X : Type 0} (P : X → Type 0) (xs : List X) (k : ℕ) (x : X) → AllByRecursion P xs → slice_get xs k ≡ Some x → P x
at_place P [] k x all e = absurd (none-some x e)
at_place P (y ∷ xs) zero x all e = subst P (same_Some y x e) all.0
at_place P (y ∷ xs) (suc k) x all e = at_place P xs k x all.1 e

-- the name at a place has that place as its number
pub number_from_place : (names : List (List ℕ)) (name : List ℕ) (k : ℕ) → IsDistinct bytes_eq names → slice_get names k ≡ Some name → number_of names name ≡ Some k
number_from_place [] name k distinct e = absurd (none-some name e)
number_from_place (x ∷ names) name zero distinct e =
    let here : bytes_eq name x ≡ true = is_same_name name x (sym (same_Some x name e)) in
    rw (position-cons (bytes_eq name) x names, here) refl
number_from_place (x ∷ names) name (suc k) distinct e =
    let apart : bytes_eq x name ≡ false = at_place _ names k name (IsDistinct-head bytes_eq x names distinct) e in
    let not_here : bytes_eq name x ≡ false = nat_list_eq_equiv.symm name x ∙ apart in
    rw (position-cons (bytes_eq name) x names, not_here, number_from_place names name k (IsDistinct-tail bytes_eq x names distinct) e) refl

-- a number is the place of the name
place_from_number : (names : List (List ℕ)) (name : List ℕ) (k : ℕ) → number_of names name ≡ Some k → slice_get names k ≡ Some name
place_from_number names name k e =
    let found = position-Some (bytes_eq name) names k name e in
    slice_get-get_or names k name found.0 ∙ ap Some (sym (same_name name _ found.1))

-- a name has a number exactly where it stands there
pub number_of-at : (names : List (List ℕ)) (name : List ℕ) → IsDistinct bytes_eq names → (k : ℕ) → (number_of names name ≡ Some k) ↔ (slice_get names k ≡ Some name)
number_of-at names name distinct k = (place_from_number names name k, number_from_place names name k distinct)

-- the two variants
none_or_some : (o : Option ℕ) → (o ≡ None) ⊎ ((k : ℕ) × (o ≡ Some k))
none_or_some None = inl refl
none_or_some (Some k) = inr (k, refl)

-- a name that stands nowhere has no number
pub no_number : (names : List (List ℕ)) (name : List ℕ) → ((k : ℕ) → k < length names → slice_get names k ≢ Some name) → number_of names name ≡ None
no_number names name absent =
    elim (none_or_some (number_of names name)) [
      | inl none ↦ none
      | inr found ↦
          let at = place_from_number names name found.0 found.1 in
          absurd (absent found.0 (slice_get_within names found.0 name at) at)
    ]

-- a name that stands somewhere is among the names
place_has : (names : List (List ℕ)) (name : List ℕ) (k : ℕ) → slice_get names k ≡ Some name → Contains names name
place_has names name k at = (k, slice_get_within names k name at, get_or_from_slice_get names k name name at)

-- there is no number exactly where the name isn't there
pub number_of-none : (names : List (List ℕ)) (name : List ℕ) → IsDistinct bytes_eq names → IsNone (number_of names name) ↔ ¬ Contains names name
number_of-none names name distinct = (
  λ none held.
      let at = slice_get-get_or names held.0 name held.1 ∙ ap Some held.2 in
      let number = number_from_place names name held.0 distinct at in
      absurd (false≢true (sym (rw number at none))),
  λ absent.
      elim (none_or_some (number_of names name)) [
        | inl none ↦ rw none refl
        | inr found ↦ absurd (absent (place_has names name found.0 (place_from_number names name found.0 found.1)))
      ],
)

-- what a look-up says of the names
pub names_say : (names : List (List ℕ)) (name : List ℕ) (r : Option ℕ) → IsDistinct bytes_eq names → r ≡ number_of names name → ((k : ℕ) → (r ≡ Some k) ↔ (slice_get names k ≡ Some name)) × (IsNone r ↔ ¬ Contains names name)
names_say names name r distinct e = (λ k. rw e (number_of-at names name distinct k), rw e (number_of-none names name distinct))

-- a name that stands somewhere is there
pub list_any-place : (names : List (List ℕ)) (name : List ℕ) (k : ℕ) → slice_get names k ≡ Some name → list_any (bytes_eq name) names ≡ true
list_any-place names name k at = any_passes_from_place (bytes_eq name) names k name at (is_same_name name name refl)

-- `map` keeps the variant
is_some-map : {X Y : Type 0} (f : X → Y) (o : Option X) → is_some (option_map f o) ≡ is_some o
is_some-map f None = refl
is_some-map f (Some x) = refl

-- a name is the first one, or is there later
known_or_later : (b c : Bool) (o : Option ℕ) → c ≡ is_some o → b || c ≡ is_some (cond b (Some 0) (option_map suc o))
known_or_later true c o e = refl
known_or_later false c o e = e ∙ sym (is_some-map suc o)

-- a name is there exactly where it has a number
pub list_any-number_of : (names : List (List ℕ)) (name : List ℕ) → list_any (bytes_eq name) names ≡ is_some (number_of names name)
list_any-number_of [] name = refl
list_any-number_of (x ∷ names) name =
    rw position-cons (known_or_later (bytes_eq name x) (list_any (bytes_eq name) names) (number_of names name) (list_any-number_of names name))

-- a name without a number isn't there
pub list_any-no_number : (names : List (List ℕ)) (name : List ℕ) → number_of names name ≡ None → list_any (bytes_eq name) names ≡ false
list_any-no_number names name e = list_any-number_of names name ∙ ap is_some e

-- ---- one more mention

-- a name that is there
pub with_name-known : (names : List (List ℕ)) (name : List ℕ) (k : ℕ) → slice_get names k ≡ Some name → names ≡ with_name names name
with_name-known names name k at = rw (list_any-place names name k at) refl

-- a name that isn't there
pub with_name-new : (names : List (List ℕ)) (name : List ℕ) → number_of names name ≡ None → with_name names name ≡ names ++ name ∷ []
with_name-new names name e = rw (list_any-no_number names name e) refl

-- the last element
pub slice_get-end : {X : Type 0} (xs : List X) (x : X) → slice_get (xs ++ x ∷ []) (length xs) ≡ Some x
slice_get-end [] x = refl
slice_get-end (y ∷ xs) x = slice_get-end xs x

-- the number of a name that was appended
pub number_at_end : {E : Type 0} (r : Result ℕ E) (old new : List (List ℕ)) (name : List ℕ) → OnOk r (new ≡ old ++ name ∷ []) → IfOk r (λ n. n ≡ length old) → IfOk r (λ n. slice_get new n ≡ Some name)
number_at_end (Ok n) old new name e end = rw (end, e) (slice_get-end old name)
number_at_end (Err x) old new name e end = tt

-- a test of two numbers that differ
pub test_false : (a b : ℕ) → a ≢ b → (a == b) ≡ false
test_false a b differ = elim (eqb_tells a b) [ inl same ↦ absurd (differ same.1) | inr other ↦ other.0 ]

-- ---- the first elements

-- the first n elements, at a place among them
pub slice_get-take : {X : Type 0} (n k : ℕ) (xs : List X) → k < n → slice_get (take n xs) k ≡ slice_get xs k
slice_get-take zero k xs lt = absurd (omega arith)
slice_get-take (suc n) k [] lt = refl
slice_get-take (suc n) zero (x ∷ xs) lt = refl
slice_get-take (suc n) (suc k) (x ∷ xs) lt = slice_get-take n k xs (omega arith)

-- the first n elements, past them
pub slice_get-take_past : {X : Type 0} (n k : ℕ) (xs : List X) → n ≤ k → slice_get (take n xs) k ≡ None
slice_get-take_past zero k xs le = refl
slice_get-take_past (suc n) k [] le = refl
slice_get-take_past (suc n) zero (x ∷ xs) le = absurd (omega arith)
slice_get-take_past (suc n) (suc k) (x ∷ xs) le = slice_get-take_past n k xs (omega arith)

-- no name before place n is the one there
pub number_of-take : (names : List (List ℕ)) (name : List ℕ) (n : ℕ) → IsDistinct bytes_eq names → slice_get names n ≡ Some name → number_of (take n names) name ≡ None
number_of-take names name n distinct at =
    elim (none_or_some (number_of (take n names) name)) [
      | inl none ↦ none
      | inr found ↦
          let here = place_from_number (take n names) name found.0 found.1 in
          let before = earlier n found.0 names name here in
          let number = number_from_place names name found.0 distinct (sym (slice_get-take n found.0 names before) ∙ here) in
          let same : found.0 ≡ n = same_Some found.0 n (sym number ∙ number_from_place names name n distinct at) in
          absurd (omega arith)
    ]
  where
    earlier : (n k : ℕ) (names : List (List ℕ)) (name : List ℕ) → slice_get (take n names) k ≡ Some name → k < n
    earlier n k names name here = elim (cases_lt k n) [ inl lt ↦ lt | inr le ↦ absurd (none-some name (sym (slice_get-take_past n k names le) ∙ here)) ]

-- one name more
pub take-name : (names : List (List ℕ)) (name : List ℕ) (n : ℕ) → slice_get names n ≡ Some name → take (n + 1) names ≡ take n names ++ name ∷ []
take-name names name n at = take_more names n name (slice_get_within names n name at) ∙ ap (λ x. take n names ++ x ∷ []) (get_or_from_slice_get names n name name at)
