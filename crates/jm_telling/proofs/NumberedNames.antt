-- The names of the handlers of several properties, which begin with the number of the property.
use Rattle.std.proofs.Common.{◌≡◌, ℕ, zero, suc, ◌+◌, ◌≤◌, List, [], ◌∷◌, ◌++◌, map, length, Some, slice_get, refl, subst, arith}
use Rattle.std.specs.Prelude.{decimal, codes}
use Rattle.std.proofs.lemmas.Option.{none-some, same_Some}
use Rattle.jm_machine.specs.HandlerNames.{numbered, numbered_from, names_for, AreEachDistinct}
use Rattle.jm_machine.proofs.HandlerNameLemmas.{names_distinct}
use Rattle.jm_print.specs.Told.{IsName, AreNames}
use Rattle.jm_print.proofs.Cutting.{AreDigits, decimal-digits}

-- each of them has only bytes of names
abbrev ArePlain : List (List ℕ) → Type 0
ArePlain names = (k : ℕ) (name : List ℕ) → slice_get names k ≡ Some name → IsName name

-- ---- one name

plain_joined : (a b : List ℕ) → IsName a → IsName b → IsName (a ++ b)
plain_joined [] b h k = k
plain_joined (c ∷ a) b h k = (h.0, plain_joined a b h.1 k)

plain_digits : (ds : List ℕ) → AreDigits ds → IsName ds
plain_digits [] h = tt
plain_digits (c ∷ ds) h =
    (((λ e. absurd (omega (arith, e, h.0))), (λ e. absurd (omega (arith, e, h.0))), (λ e. absurd (omega (arith, e, h.0))), (λ e. absurd (omega (arith, e, h.1)))), plain_digits ds h.2)

plain_numbered : (j : ℕ) (category : List ℕ) → IsName category → IsName (numbered j category)
plain_numbered j category h =
    plain_joined (decimal (j + 1)) (codes "." ++ category) (plain_digits (decimal (j + 1)) (decimal-digits (j + 1)))
    (((λ e. absurd (omega (arith, e))), (λ e. absurd (omega (arith, e))), (λ e. absurd (omega (arith, e))), (λ e. absurd (omega (arith, e)))), h)

-- ---- lists of names

numbered_plain : (j : ℕ) (categories : List (List ℕ)) → ArePlain categories → ArePlain (map (numbered j) categories)
numbered_plain j [] h k name at = absurd (none-some name at)
numbered_plain j (c ∷ categories) h zero name at = subst IsName (same_Some (numbered j c) name at) (plain_numbered j c (h zero c refl))
numbered_plain j (c ∷ categories) h (suc k) name at = numbered_plain j categories (λ i n e. h (suc i) n e) k name at

both_plain : (xs ys : List (List ℕ)) → ArePlain xs → ArePlain ys → ArePlain (xs ++ ys)
both_plain [] ys h g k name at = g k name at
both_plain (x ∷ xs) ys h g zero name at = h zero name at
both_plain (x ∷ xs) ys h g (suc k) name at = both_plain xs ys (λ i n e. h (suc i) n e) g k name at

-- the categories of each property are names
abbrev pub EachNames : List (List (List ℕ)) → Type 0
EachNames [] = Unit {0}
EachNames (categories ∷ rest) = AreNames categories × EachNames rest

each_distinct : (all : List (List (List ℕ))) → EachNames all → AreEachDistinct all
each_distinct [] h = tt
each_distinct (categories ∷ rest) h = (h.0.distinct, each_distinct rest h.1)

all_plain : (all : List (List (List ℕ))) (j : ℕ) → EachNames all → ArePlain (numbered_from j all)
all_plain [] j h = λ k name at. absurd (none-some name at)
all_plain (categories ∷ rest) j h =
    both_plain (map (numbered j) categories) (numbered_from (j + 1) rest) (numbered_plain j categories h.0.each) (all_plain rest (j + 1) h.1)

pub names_named : (all : List (List (List ℕ))) → length all ≤ 16 → EachNames all → AreNames (names_for all)
names_named [] few h = record { each = all_plain [] 0 h; distinct = names_distinct [] few tt }
names_named (categories ∷ []) few h = h.0
names_named (categories ∷ others ∷ rest) few h =
    record { each = all_plain (categories ∷ others ∷ rest) 0 h; distinct = names_distinct (categories ∷ others ∷ rest) few (each_distinct (categories ∷ others ∷ rest) h) }
