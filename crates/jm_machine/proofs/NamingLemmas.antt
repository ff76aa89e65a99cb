-- Names of handlers that are added one after the other are new.
use Rattle.std.proofs.Common.{◌≡◌, ◌≢◌, ◌==◌, true, false, ℕ, zero, suc, ◌+◌, ◌<◌, ◌≤◌, Option, Some, None, List, [], ◌∷◌, ◌++◌, map, take, drop, get_or, length, slice_get, refl, sym, ◌∙◌, ap, subst, arith, append-nil, append_assoc}
use Rattle.std.specs.Str.{bytes_eq}
use Rattle.std.proofs.lemmas.Bool.{false≢true, eqb-true}
use Rattle.std.proofs.lemmas.List.{map_more, length-map, length-append}
use Rattle.std.proofs.lemmas.List.Quantifiers.{position-Some}
use Rattle.std.proofs.lemmas.Option.{same_Some, none-some, slice_get_within, slice_get-get_or, get_or_from_slice_get}
use Rattle.jm_events.specs.Names.{number_of, with_name}
use Rattle.jm_events.proofs.NameLemmas.{same_name, with_name-new}
use Rattle.jm_machine.specs.HandlerNames.{numbered, numbered_from, names_of, AreDistinct, AreEachDistinct}
use Rattle.jm_machine.specs.Meanings.{PropertyDefinition, handler_count}
use Rattle.jm_machine.specs.CompiledProperties.{CompiledProperty}
use Rattle.jm_machine.specs.RuleSets.{property_of, rules_with}
use Rattle.jm_machine.proofs.HandlerNameLemmas.{numbered_distinct}

in_front : (xs ys : List (List ℕ)) (k : ℕ) → k < length xs → slice_get (xs ++ ys) k ≡ slice_get xs k
in_front [] ys k less = absurd (omega (arith, less))
in_front (x ∷ xs) ys zero less = refl
in_front (x ∷ xs) ys (suc k) less = in_front xs ys k (omega (arith, less))

behind : (xs : List (List ℕ)) (y : List ℕ) (ys : List (List ℕ)) → slice_get (xs ++ y ∷ ys) (length xs) ≡ Some y
behind [] y ys = refl
behind (x ∷ xs) y ys = behind xs y ys

-- a name that stands after these, where all are distinct, is none of these
fresh : (names : List (List ℕ)) (name : List ℕ) (rest : List (List ℕ)) → AreDistinct (names ++ name ∷ rest) → number_of names name ≡ None
fresh names name rest distinct = by_case (number_of names name) refl
  where
    by_case : (o : Option ℕ) → number_of names name ≡ o → o ≡ None
    by_case None e = refl
    by_case (Some k) e =
        let found = position-Some (bytes_eq name) names k name e in
        let same = same_name name (get_or names k name) found.1 in
        let here : slice_get names k ≡ Some name = slice_get-get_or names k name found.0 ∙ ap (λ (n : List ℕ). Some n) (sym same) in
        absurd (omega (arith, found.0, distinct k (length names) name (in_front names (name ∷ rest) k found.0 ∙ here) (behind names name rest)))

-- one name more of a property
pub named_more : (number : ℕ) (old categories names : List (List ℕ)) (i : ℕ) (category name : List ℕ) → AreDistinct (old ++ map (numbered number) categories) → names ≡ old ++ map (numbered number) (take i categories)
    → slice_get categories i ≡ Some category → name ≡ numbered number category → with_name names name ≡ old ++ map (numbered number) (take (i + 1) categories)
named_more number old categories names i category name distinct so at named =
    let f = numbered number in
    let less = slice_get_within categories i category at in
    let is : get_or categories i category ≡ category = get_or_from_slice_get categories i category category at in
    let split : map f categories ≡ map f (take i categories) ++ f category ∷ map f (drop (suc i) categories) = map_split f categories i category less is in
    let whole : old ++ map f categories ≡ names ++ name ∷ map f (drop (suc i) categories) =
    ap (λ (xs : List (List ℕ)). old ++ xs) split ∙ sym (append_assoc old (map f (take i categories)) (f category ∷ map f (drop (suc i) categories)))
    ∙ ap (λ (xs : List (List ℕ)). xs ++ f category ∷ map f (drop (suc i) categories)) (sym so) ∙ ap (λ (n : List ℕ). names ++ n ∷ map f (drop (suc i) categories)) (sym named) in
    let new = fresh names name (map f (drop (suc i) categories)) (subst AreDistinct whole distinct) in
    with_name-new names name new ∙ ap (λ (xs : List (List ℕ)). xs ++ name ∷ []) so ∙ append_assoc old (map f (take i categories)) (name ∷ [])
    ∙ ap (λ (n : List ℕ). old ++ (map f (take i categories) ++ n ∷ [])) (named ∙ ap f (sym is))
    ∙ ap (λ (xs : List (List ℕ)). old ++ xs) (sym (map_more f categories i category less))
  where
    map_split : (f : List ℕ → List ℕ) (xs : List (List ℕ)) (i : ℕ) (x : List ℕ) → i < length xs → get_or xs i x ≡ x → map f xs ≡ map f (take i xs) ++ f x ∷ map f (drop (suc i) xs)
    map_split f [] i x less is = absurd (omega (arith, less))
    map_split f (y ∷ xs) zero x less is = ap (λ (n : List ℕ). f n ∷ map f xs) is
    map_split f (y ∷ xs) (suc i) x less is = ap (λ (ys : List (List ℕ)). f y ∷ ys) (map_split f xs i x (omega (arith, less)) is)

-- ---- the names of the first so many properties

-- with those of one property more
pub numbered_more : (all : List (List (List ℕ))) (j n : ℕ) (cs : List (List ℕ)) → slice_get all n ≡ Some cs → numbered_from j (take n all) ++ map (numbered (j + n)) cs ≡ numbered_from j (take (suc n) all)
numbered_more [] j n cs at = absurd (none-some cs at)
numbered_more (x ∷ all) j zero cs at =
    let same : cs ≡ x = sym (same_Some x cs at) in
    let here : j + 0 ≡ j = omega arith in
    ap (λ (i : ℕ). map (numbered i) cs) here ∙ ap (λ (ys : List (List ℕ)). map (numbered j) ys) same ∙ sym (append-nil (map (numbered j) x))
numbered_more (x ∷ all) j (suc n) cs at =
    let there : j + suc n ≡ j + 1 + n = omega arith in
    append_assoc (map (numbered j) x) (numbered_from (j + 1) (take n all)) (map (numbered (j + suc n)) cs)
    ∙ ap (λ (i : ℕ). map (numbered j) x ++ (numbered_from (j + 1) (take n all) ++ map (numbered i) cs)) there
    ∙ ap (λ (ys : List (List ℕ)). map (numbered j) x ++ ys) (numbered_more all (j + 1) n cs at)

each_taken : (all : List (List (List ℕ))) (n : ℕ) → AreEachDistinct all → AreEachDistinct (take n all)
each_taken [] zero each = tt
each_taken [] (suc n) each = tt
each_taken (x ∷ all) zero each = tt
each_taken (x ∷ all) (suc n) each = (each.0, each_taken all n each.1)

taken_few : (all : List (List (List ℕ))) (n : ℕ) → length (take n all) ≤ length all
taken_few [] zero = omega arith
taken_few [] (suc n) = omega arith
taken_few (x ∷ all) zero = omega arith
taken_few (x ∷ all) (suc n) = omega (arith, taken_few all n)

-- no two of the first so many properties' names and those of the next are equal
pub distinct_more : (all : List (List (List ℕ))) (n : ℕ) (cs : List (List ℕ)) → length all ≤ 16 → AreEachDistinct all → slice_get all n ≡ Some cs → AreDistinct (numbered_from 0 (take n all) ++ map (numbered n) cs)
distinct_more all n cs few each at =
    let here : 0 + n ≡ n = omega arith in
    let is : numbered_from 0 (take (suc n) all) ≡ numbered_from 0 (take n all) ++ map (numbered n) cs =
    sym (numbered_more all 0 n cs at) ∙ ap (λ (i : ℕ). numbered_from 0 (take n all) ++ map (numbered i) cs) here in
    subst AreDistinct is (numbered_distinct (take (suc n) all) 0 (omega (arith, few, taken_few all (suc n))) (each_taken all (suc n) each))

-- and there is room for them
pub room_more : (parts : List CompiledProperty) (j n : ℕ) (part : CompiledProperty) → slice_get parts n ≡ Some part
    → length (numbered_from j (take n (map (λ (c : CompiledProperty). c.definition.handlers) parts))) + length part.definition.handlers ≤ handler_count (map property_of parts)
room_more [] j n part at = absurd (none-some part at)
room_more (q ∷ parts) j zero part at =
    let same : length q.definition.handlers ≡ length part.definition.handlers = ap (λ (c : CompiledProperty). length c.definition.handlers) (same_Some q part at) in
    omega (arith, same)
room_more (q ∷ parts) j (suc n) part at =
    let rest = numbered_from (j + 1) (take n (map (λ (c : CompiledProperty). c.definition.handlers) parts)) in
    omega (arith, length-append (map (numbered j) q.definition.handlers) rest, length-map q.definition.handlers (numbered j), room_more parts (j + 1) n part at)

-- the handlers of a property are among those of all
pub handlers_at : (parts : List CompiledProperty) (n : ℕ) (part : CompiledProperty) → slice_get parts n ≡ Some part
    → slice_get (map (λ (c : CompiledProperty). c.definition.handlers) parts) n ≡ Some part.definition.handlers
handlers_at [] n part at = absurd (none-some part at)
handlers_at (q ∷ parts) zero part at = ap (λ (c : CompiledProperty). Some c.definition.handlers) (same_Some q part at)
handlers_at (q ∷ parts) (suc n) part at = handlers_at parts n part at

pub many_handlers : (parts : List CompiledProperty) → length (map (λ (c : CompiledProperty). c.definition.handlers) parts) ≡ length parts
many_handlers parts = length-map parts (λ (c : CompiledProperty). c.definition.handlers)

-- of all of them
pub numbered_all : (all : List (List (List ℕ))) (n : ℕ) → length all ≤ n → numbered_from 0 (take n all) ≡ numbered_from 0 all
numbered_all all n past = ap (λ (xs : List (List (List ℕ))). numbered_from 0 xs) (whole all n past)
  where
    whole : (xs : List (List (List ℕ))) (k : ℕ) → length xs ≤ k → take k xs ≡ xs
    whole [] zero past = refl
    whole [] (suc k) past = refl
    whole (x ∷ xs) zero past = absurd (omega (arith, past))
    whole (x ∷ xs) (suc k) past = ap (λ (ys : List (List (List ℕ))). x ∷ ys) (whole xs k (omega (arith, past)))

-- a property more, after the first
module _ (first : CompiledProperty) (others : List CompiledProperty) (k : ℕ) (part : CompiledProperty) (names own : List (List ℕ)) (less : k < length others) (at : part ≡ get_or others k part) (is : own ≡ part.definition.handlers)
    (so : names ≡ numbered_from 0 (take (k + 1) (map (λ (c : CompiledProperty). c.definition.handlers) (first ∷ others)))) where
  abbrev each : List (List (List ℕ))
  each = map (λ (c : CompiledProperty). c.definition.handlers) (first ∷ others)

  part_there : slice_get (first ∷ others) (k + 1) ≡ Some part
  part_there =
      let next : k + 1 ≡ suc k = omega arith in
      ap (λ (n : ℕ). slice_get (first ∷ others) n) next ∙ slice_get-get_or others k part less ∙ ap (λ (c : CompiledProperty). Some c) (sym at)

  cs_there : slice_get each (k + 1) ≡ Some own
  cs_there = handlers_at (first ∷ others) (k + 1) part part_there ∙ ap (λ (cs : List (List ℕ)). Some cs) (sym is)

  pub name_more : (new : List (List ℕ)) → new ≡ names ++ map (numbered (k + 1)) own → new ≡ numbered_from 0 (take (k + 1 + 1) each)
  name_more new pushed =
      let here : k + 1 ≡ 0 + (k + 1) = omega arith in
      let next : suc (k + 1) ≡ k + 1 + 1 = omega arith in
      pushed ∙ ap (λ (xs : List (List ℕ)). xs ++ map (numbered (k + 1)) own) so
      ∙ ap (λ (i : ℕ). numbered_from 0 (take (k + 1) each) ++ map (numbered i) own) here
      ∙ numbered_more each 0 (k + 1) own cs_there ∙ ap (λ (i : ℕ). numbered_from 0 (take i each)) next

  pub name_room : handler_count (map property_of (first ∷ others)) ≤ 16 → length names + length own ≤ 16
  name_room few =
      omega (arith, few, room_more (first ∷ others) 0 (k + 1) part part_there, ap (λ (xs : List (List ℕ)). length xs) so, ap (λ (xs : List (List ℕ)). length xs) is)

  pub name_new : length others < 16 → AreEachDistinct each → AreDistinct (names ++ map (numbered (k + 1)) own)
  name_new few apart =
      subst (λ (xs : List (List ℕ)). AreDistinct (xs ++ map (numbered (k + 1)) own)) (sym so)
      (distinct_more each (k + 1) own (omega (arith, few, many_handlers (first ∷ others))) apart cs_there)

-- ---- the names of rules of several properties

same_handlers : (parts : List CompiledProperty) → map (λ (c : CompiledProperty). c.definition.handlers) parts ≡ map (λ (p : PropertyDefinition). p.handlers) (map property_of parts)
same_handlers [] = refl
same_handlers (q ∷ parts) = ap (λ (xs : List (List (List ℕ))). q.definition.handlers ∷ xs) (same_handlers parts)

pub names_several : (first : CompiledProperty) (others : List CompiledProperty) → others ≢ [] → numbered_from 0 (map (λ (c : CompiledProperty). c.definition.handlers) (first ∷ others)) ≡ names_of (rules_with first others)
names_several first [] some = absurd (some refl)
names_several first (q ∷ others) some =
    ap (λ (xs : List (List (List ℕ))). numbered_from 0 (first.definition.handlers ∷ q.definition.handlers ∷ xs)) (same_handlers others)

pub none_of_empty : (others : List CompiledProperty) (len : ℕ) → len ≡ length others → true ≡ (len == 0) → others ≡ []
none_of_empty [] len is empty = refl
none_of_empty (q ∷ others) len is empty = let none = eqb-true len 0 (sym empty) in absurd (omega (arith, is, none))

pub some_of_more : (others : List CompiledProperty) (len : ℕ) → len ≡ length others → false ≡ (len == 0) → others ≢ []
some_of_more others zero is more = absurd (false≢true more)
some_of_more others (suc len) is more = λ none. let count = is ∙ ap (λ (xs : List CompiledProperty). length xs) none in omega (arith, count)
