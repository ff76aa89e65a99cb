-- Names in order of first mention.
use Rattle.std.proofs.Common.{ℕ, zero, suc, ◌≡◌, ◌<◌, ◌+◌, Bool, true, false, cond, not, ltb, ◌||◌, List, [], ◌∷◌, ◌++◌, length, slice_get, position, Option, Some, None, option_map, is_some, IsSome, unwrap_or, refl, sym, ap, ◌∙◌, arith}
use Rattle.std.specs.List.{list_any, position_or_len}
use Rattle.std.specs.Str.{bytes_eq}
use Rattle.std.proofs.lemmas.Bool.{false≢true}
use Rattle.std.proofs.lemmas.Bool.Decides.{nat_tests}
use Rattle.std.proofs.lemmas.Option.{none-some, same_Some}
use Rattle.std.proofs.lemmas.List.{length_push}
use Rattle.std.proofs.lemmas.Slice.Eq.{bytes_eq-Decides}
use Rattle.jm_events.specs.Names.{number_of, with_name}
use Rattle.jm_script.specs.Objects.{number_at_mention}

first_place : (n : ℕ) → cond {A = Option ℕ} (ltb 0 (suc n)) (Some 0) None ≡ Some 0
first_place n = grind (arith, nat_tests)

later_place : (i n : ℕ) → cond {A = Option ℕ} (ltb (1 + i) (suc n)) (Some (1 + i)) None ≡ option_map suc (cond (ltb i n) (Some i) None)
later_place i n = grind (arith, nat_tests)

-- the first place that passes, in a list with one element more in front
position-cons : {X : Type 0} (p : X → Bool) (x : X) (xs : List X) → position p (x ∷ xs) ≡ cond (p x) (Some 0) (option_map suc (position p xs))
position-cons p x xs =
    let i = position_or_len p xs in
    elim (p x) as (λ b. cond {A = Option ℕ} (ltb (cond (not b) (1 + i) 0) (suc (length xs))) (Some (cond (not b) (1 + i) 0)) None ≡ cond b (Some 0) (option_map suc (position p xs)))
    [ true ↦ first_place (length xs) | false ↦ later_place i (length xs) ]

is_same : (a b : List ℕ) → a ≡ b → bytes_eq a b ≡ true
is_same a b e = (bytes_eq-Decides a b).1 e

no_place : (b : Bool) (o : Option ℕ) → cond b (Some 0) (option_map suc o) ≡ None → (b ≡ false) × (o ≡ None)
no_place true o e = absurd (none-some 0 (sym e))
no_place false None e = (refl, refl)
no_place false (Some k) e = absurd (none-some (suc k) (sym e))

-- a name without a number isn't among names with another one in front
absent : (x : List ℕ) (names : List (List ℕ)) (name : List ℕ) → number_of (x ∷ names) name ≡ None → (bytes_eq name x ≡ false) × (number_of names name ≡ None)
absent x names name e = no_place (bytes_eq name x) (number_of names name) (rw (position-cons (bytes_eq name) x names) at e)

is_some-map : {X Y : Type 0} (f : X → Y) (o : Option X) → is_some (option_map f o) ≡ is_some o
is_some-map f None = refl
is_some-map f (Some x) = refl

known_or_later : (b c : Bool) (o : Option ℕ) → c ≡ is_some o → b || c ≡ is_some (cond b (Some 0) (option_map suc o))
known_or_later true c o e = refl
known_or_later false c o e = e ∙ sym (is_some-map suc o)

-- a name is there exactly where it has a number
pub list_any-number_of : (names : List (List ℕ)) (name : List ℕ) → list_any (bytes_eq name) names ≡ is_some (number_of names name)
list_any-number_of [] name = refl
list_any-number_of (x ∷ names) name =
    rw position-cons (known_or_later (bytes_eq name x) (list_any (bytes_eq name) names) (number_of names name) (list_any-number_of names name))

-- a mention of a name that is there, and of a new one
pub with_name-known : (names : List (List ℕ)) (name : List ℕ) (k : ℕ) → number_of names name ≡ Some k → with_name names name ≡ names
with_name-known names name k e =
    let known : list_any (bytes_eq name) names ≡ true = list_any-number_of names name ∙ ap is_some e in
    rw known refl

pub with_name-new : (names : List (List ℕ)) (name : List ℕ) → number_of names name ≡ None → with_name names name ≡ names ++ name ∷ []
with_name-new names name e =
    let new : list_any (bytes_eq name) names ≡ false = list_any-number_of names name ∙ ap is_some e in
    rw new refl

-- the number of a new name is the last
number_of-push : (names : List (List ℕ)) (name : List ℕ) → number_of names name ≡ None → number_of (names ++ name ∷ []) name ≡ Some (length names)
number_of-push [] name e = rw (position-cons (bytes_eq name) name [], is_same name name refl) refl
number_of-push (x ∷ names) name e =
    let h = absent x names name e in
    rw (position-cons (bytes_eq name) x (names ++ name ∷ []), h.0, number_of-push names name h.1) refl

-- and its place too
place_of-push : (names : List (List ℕ)) (name : List ℕ) (k : ℕ) → number_of names name ≡ None → slice_get (names ++ name ∷ []) k ≡ Some name → k ≡ length names
place_of-push [] name zero e at = refl
place_of-push [] name (suc k) e at = absurd (none-some name at)
place_of-push (x ∷ names) name zero e at = absurd (false≢true (sym (absent x names name e).0 ∙ is_same name x (sym (same_Some x name at))))
place_of-push (x ∷ names) name (suc k) e at = ap suc (place_of-push names name k (absent x names name e).1 at)

-- the number of a name at its mention
pub number-known : (names : List (List ℕ)) (name : List ℕ) (k : ℕ) → number_of names name ≡ Some k → k ≡ number_at_mention names name
number-known names name k e = rw (with_name-known names name k e, e) refl

pub number-new : (names new : List (List ℕ)) (name : List ℕ) (k : ℕ) → number_of names name ≡ None → new ≡ with_name names name → slice_get new k ≡ Some name → k ≡ number_at_mention names name
number-new names new name k e known at =
    let pushed : new ≡ names ++ name ∷ [] = known ∙ with_name-new names name e in
    let last : k ≡ length names = place_of-push names name k e (ap (λ l. slice_get l k) (sym pushed) ∙ at) in
    rw (with_name-new names name e, number_of-push names name e) last

found_below : (i n k : ℕ) → cond {A = Option ℕ} (ltb i n) (Some i) None ≡ Some k → k < n
found_below i n k e = grind (arith, nat_tests)

-- a number is one of a name
pub number_of-below : (names : List (List ℕ)) (name : List ℕ) (k : ℕ) → number_of names name ≡ Some k → k < length names
number_of-below names name k e = found_below (position_or_len (bytes_eq name) names) (length names) k e

-- and so is that of a mention
pub number_at_mention-below : (names : List (List ℕ)) (name : List ℕ) → number_at_mention names name < length (with_name names name)
number_at_mention-below names name = by_case (number_of names name) refl
  where
    by_case : (o : Option ℕ) → number_of names name ≡ o → number_at_mention names name < length (with_name names name)
    by_case None e = rw (with_name-new names name e, number_of-push names name e) (omega (arith, length_push names name))
    by_case (Some k) e = rw (with_name-known names name k e, e) (number_of-below names name k e)

-- a look-up that answered
pub is_there : (o : Option ℕ) → is_some o ≡ true → o ≡ None → ⊥
is_there None e n = false≢true e
is_there (Some k) e n = none-some k (sym n)

pub is_not_there : (o : Option ℕ) → is_some o ≡ false → IsSome o → ⊥
is_not_there None e some = false≢true some
is_not_there (Some k) e some = false≢true (sym e)

pub not_some : (o : Option ℕ) → is_some o ≡ false → o ≡ None
not_some None e = refl
not_some (Some k) e = absurd (false≢true (sym e))

-- and of one that is mentioned
pub number-mentioned : (names new : List (List ℕ)) (name : List ℕ) (o : Option ℕ) → o ≡ number_of names name → (k : ℕ) → new ≡ with_name names name → slice_get new k ≡ Some name → k ≡ unwrap_or (number_of names name) (length names)
    → k ≡ number_at_mention names name
number-mentioned names new name None e k known at place = number-new names new name k (sym e) known at
number-mentioned names new name (Some n) e k known at place = place ∙ ap (λ o. unwrap_or o (length names)) (sym e) ∙ number-known names name n (sym e)
