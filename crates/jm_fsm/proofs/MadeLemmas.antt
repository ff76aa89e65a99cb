-- The machine of a formula without a fault.
use Rattle.std.proofs.Common.{ℕ, suc, ◌≡◌, ◌+◌, ◌<◌, ◌≤◌, Bool, true, false, cond, ◌||◌, List, [], ◌∷◌, ◌++◌, Option, Some, None, Ok, All, map, length, get_or, option_map, refl, sym, ap, subst, ◌∙◌, arith, append_assoc, append-nil, length-append, drop, drop-cons}
use Rattle.std.specs.Prelude.{codes, count_by}
use Rattle.std.specs.List.{list_any}
use Rattle.std.specs.Str.{bytes_eq}
use Rattle.std.specs.Option.{is_some}
use Rattle.std.proofs.lemmas.Bool.{ltb-false}
use Rattle.std.proofs.lemmas.List.{length-map, map-append, drop_more}
use Rattle.std.proofs.lemmas.List.Sums.{sum_by-append}
use Rattle.std.proofs.lemmas.List.Elements.{All-push}
use Rattle.std.proofs.lemmas.List.Quantifiers.{position-Some}
use Rattle.std.proofs.lemmas.Slice.Eq.{bytes_eq-Decides}
use Rattle.jm_text.specs.declared.token.Token.{Token}
use Rattle.jm_events.specs.Names.{number_of, with_name}
use Rattle.jm_events.proofs.NameLemmas.{list_any-number_of}
use Rattle.jm_fsm.specs.declared.machine.Destination.{Destination}
use Rattle.jm_fsm.specs.declared.machine.Destination.TheVariants.{State, Fail}
use Rattle.jm_fsm.specs.declared.machine.Transition.{Transition}
use Rattle.jm_fsm.specs.declared.formula.TransitionText.{TransitionText}
use Rattle.jm_fsm.specs.declared.formula.TransitionText.TheVariants.{On, Fallback}
use Rattle.jm_fsm.specs.declared.formula.Part.{Part}
use Rattle.jm_fsm.specs.declared.formula.Part.TheVariants.{Declaration, Alias}
use Rattle.jm_fsm.specs.Machines.{StateDefinition, AliasDefinition, StateMachine}
use Rattle.jm_fsm.specs.WellFormed.{IsDestination, IsMachine}
use Rattle.jm_fsm.specs.Categories.{AreDistinct, category_names}
use Rattle.jm_fsm.specs.Spelling.{is_state}
use Rattle.jm_reading.specs.Names.{is_among}
use Rattle.jm_reading.specs.Tokens.{name_of}
use Rattle.jm_reading.specs.Events.{letter_said}
use Rattle.jm_reading.proofs.ReadLemmas.{then_ok, said_is, kept_by_each}
use Rattle.jm_reading.specs.Faults.{with_each}
use Rattle.jm_fsm.specs.Faults.{is_alias, aliases_fault, is_reserved, part_name_fault, duplicate_state_fault, states_fault, state_names, destination_named, destination_said, with_listed, with_transition, state_said, with_member, alias_said, with_part}

-- ---- counts of names

count-append : (name : List ℕ) (xs ys : List (List ℕ)) → count_by (bytes_eq name) (xs ++ ys) ≡ count_by (bytes_eq name) xs + count_by (bytes_eq name) ys
count-append name xs ys = sum_by-append (λ x. cond (bytes_eq name x) 1 0) xs ys

count-cons : {X : Type 0} (p : X → Bool) (x : X) (xs : List X) → count_by p (x ∷ xs) ≡ cond (p x) 1 0 + count_by p xs
count-cons p x xs = omega (arith, sum_by-append (λ y. cond (p y) 1 0) (x ∷ []) xs)

either_false : (a b : Bool) → (a || b) ≡ false → (a ≡ false) × (b ≡ false)
either_false true b h = absurd (cc)
either_false false b h = (refl, h)

none_counted : (name : List ℕ) (xs : List (List ℕ)) → is_among xs name ≡ false → count_by (bytes_eq name) xs ≡ 0
none_counted name [] h = refl
none_counted name (x ∷ xs) h =
    let p = either_false (bytes_eq name x) (list_any (bytes_eq name) xs) h in
    let out : cond {A = ℕ} (bytes_eq name x) 1 0 ≡ 0 = ap (λ b. cond {A = ℕ} b 1 0) p.0 in
    omega (arith, count-cons (bytes_eq name) x xs, out, none_counted name xs p.1)

none_among : (name : List ℕ) (xs : List (List ℕ)) → count_by (bytes_eq name) xs ≡ 0 → is_among xs name ≡ false
none_among name [] h = refl
none_among name (x ∷ xs) h = none_of_both (bytes_eq name x) (list_any (bytes_eq name) xs) (count_by (bytes_eq name) xs) (sym (count-cons (bytes_eq name) x xs) ∙ h) (none_among name xs)
  where
    none_of_both : (a b : Bool) (n : ℕ) → cond a 1 0 + n ≡ 0 → (n ≡ 0 → b ≡ false) → (a || b) ≡ false
    none_of_both true b n h k = absurd (omega (arith, h))
    none_of_both false b n h k = k (omega (arith, h))

-- a name that is found is among the others
pub found_among : (names : List (List ℕ)) (name : List ℕ) (found : Option ℕ) (b : Bool) → b ≡ is_some found → found ≡ number_of names name → is_among names name ≡ b
found_among names name found b e is = list_any-number_of names name ∙ ap (λ (o : Option ℕ). is_some o) (sym is) ∙ sym e

itself : (name : List ℕ) → bytes_eq name name ≡ true
itself name = (bytes_eq-Decides name name).1 refl

-- names that stand before one in a list without repeats are others
fresh : (before : List (List ℕ)) (name : List ℕ) (after : List (List ℕ)) → AreDistinct (before ++ name ∷ after) → is_among before name ≡ false
fresh before name after h =
    let here : cond {A = ℕ} (bytes_eq name name) 1 0 ≡ 1 = ap (λ b. cond {A = ℕ} b 1 0) (itself name) in
    none_among name before (omega (arith, h name, count-append name before (name ∷ after), count-cons (bytes_eq name) name after, here))

with_name_new : (names : List (List ℕ)) (n : List ℕ) → is_among names n ≡ false → with_name names n ≡ names ++ n ∷ []
with_name_new names n h = rw h refl

-- so one is added after them
pub new_name : (before : List (List ℕ)) (name : List ℕ) (after : List (List ℕ)) → AreDistinct (before ++ name ∷ after) → with_name before name ≡ before ++ name ∷ []
new_name before name after h = with_name_new before name (fresh before name after h)

pub distinct_front : (before after : List (List ℕ)) → AreDistinct (before ++ after) → AreDistinct before
distinct_front before after h name = omega (arith, h name, count-append name before after)

-- the names of the elements before one, in a list without repeats
module _ {X : Type 0} (name : X → List ℕ) (names all : List (List ℕ)) (xs : List X) (i : ℕ) (x : X) (lt : i < length xs) (read : x ≡ get_or xs i x) (is : names ++ map name (drop i xs) ≡ all) where
  here : names ++ name x ∷ map name (drop (suc i) xs) ≡ all
  here = ap (λ (l : List X). names ++ map name l) (ap (λ (y : X). y ∷ drop (suc i) xs) read ∙ sym (drop-cons xs i x lt)) ∙ is

  pub added_here : AreDistinct all → with_name names (name x) ++ map name (drop (suc i) xs) ≡ all
  added_here distinct =
      ap (λ (l : List (List ℕ)). l ++ map name (drop (suc i) xs)) (new_name names (name x) (map name (drop (suc i) xs)) (subst AreDistinct (sym here) distinct))
      ∙ append_assoc names (name x ∷ []) (map name (drop (suc i) xs)) ∙ here

  pub room_here : length names < length all
  room_here = omega (arith, ap (λ (l : List (List ℕ)). length l) here, length-append names (name x ∷ map name (drop (suc i) xs)))

-- ---- the names of a formula's states and aliases

abbrev alias_names : List ℕ → List Part → List (List ℕ)
alias_names bytes [] = []
alias_names bytes (Declaration name transitions ∷ ps) = alias_names bytes ps
alias_names bytes (Alias name members ∷ ps) = name_of bytes name ∷ alias_names bytes ps

if_none : {X : Type 0} (b : Bool) (x : X) (o : Option X) → cond b (Some x) o ≡ None → (b ≡ false) × (o ≡ None)
if_none true x o h = absurd (cc)
if_none false x o h = (refl, h)

-- how often a name stands in a list with another at its end
count-push : (x : List ℕ) (names : List (List ℕ)) (n : List ℕ) → count_by (bytes_eq x) (names ++ n ∷ []) ≡ count_by (bytes_eq x) names + cond (bytes_eq x n) 1 0
count-push x names n = omega (arith, count-append x names (n ∷ []))

one_or_none : (b : Bool) (x n : List ℕ) (names : List (List ℕ)) → bytes_eq x n ≡ b → is_among names n ≡ false → count_by (bytes_eq x) names ≤ 1 → count_by (bytes_eq x) names + cond b 1 0 ≤ 1
one_or_none true x n names e out h =
    let same : x ≡ n = (bytes_eq-Decides x n).0 e in
    let none : count_by (bytes_eq x) names ≡ 0 = ap (λ y. count_by (bytes_eq y) names) same ∙ none_counted n names out in
    omega arith
one_or_none false x n names e out h = omega arith

push_distinct : (names : List (List ℕ)) (n : List ℕ) → AreDistinct names → is_among names n ≡ false → AreDistinct (names ++ n ∷ [])
push_distinct names n distinct out x = omega (arith, one_or_none (bytes_eq x n) x n names refl out (distinct x), count-push x names n)

apart_of : (b : Bool) (x n f : List ℕ) → bytes_eq x n ≡ b → bytes_eq x f ≡ true → bytes_eq n f ≡ false → b ≡ false
apart_of true x n f e h k = let same : bytes_eq n f ≡ true = ap (λ y. bytes_eq y f) (sym ((bytes_eq-Decides x n).0 e)) ∙ h in absurd (cc)
apart_of false x n f e h k = refl

apart : (x n f : List ℕ) → bytes_eq x f ≡ true → bytes_eq n f ≡ false → bytes_eq x n ≡ false
apart x n f h k = apart_of (bytes_eq x n) x n f refl h k

module _ (bytes : List ℕ) where
  -- no name stands twice among the states and aliases
  once : (names : List (List ℕ)) (parts : List Part) → duplicate_state_fault bytes names parts ≡ None → AreDistinct names → (x : List ℕ) → count_by (bytes_eq x) names + count_by (bytes_eq x) (state_names bytes parts) + count_by (bytes_eq x) (alias_names bytes parts) ≤ 1
  once names [] h distinct x = omega (arith, distinct x)
  once names (Declaration name ts ∷ ps) h distinct x =
      let n = name_of bytes name in
      let q = if_none (is_among names n) _ _ h in
      let rest : duplicate_state_fault bytes (names ++ n ∷ []) ps ≡ None = subst (λ (l : List (List ℕ)). duplicate_state_fault bytes l ps ≡ None) (with_name_new names n q.0) q.1 in
      omega (arith, once (names ++ n ∷ []) ps rest (push_distinct names n distinct q.0) x, count-push x names n, count-cons (bytes_eq x) n (state_names bytes ps))
  once names (Alias name ms ∷ ps) h distinct x =
      let n = name_of bytes name in
      let q = if_none (is_among names n) _ _ h in
      let rest : duplicate_state_fault bytes (names ++ n ∷ []) ps ≡ None = subst (λ (l : List (List ℕ)). duplicate_state_fault bytes l ps ≡ None) (with_name_new names n q.0) q.1 in
      omega (arith, once (names ++ n ∷ []) ps rest (push_distinct names n distinct q.0) x, count-push x names n, count-cons (bytes_eq x) n (alias_names bytes ps))

  -- and none of them is `fail`
  never_fail : (parts : List Part) → part_name_fault bytes parts ≡ None → (x : List ℕ) → bytes_eq x (codes "fail") ≡ true → count_by (bytes_eq x) (state_names bytes parts) + count_by (bytes_eq x) (alias_names bytes parts) ≡ 0
  never_fail [] h x e = refl
  never_fail (Declaration name ts ∷ ps) h x e =
      let n = name_of bytes name in
      let q = if_none (is_reserved n) _ _ h in
      let out : cond {A = ℕ} (bytes_eq x n) 1 0 ≡ 0 = ap (λ b. cond {A = ℕ} b 1 0) (apart x n (codes "fail") e (either_false _ _ q.0).0) in
      omega (arith, never_fail ps q.1 x e, out, count-cons (bytes_eq x) n (state_names bytes ps))
  never_fail (Alias name ms ∷ ps) h x e =
      let n = name_of bytes name in
      let q = if_none (is_reserved n) _ _ h in
      let out : cond {A = ℕ} (bytes_eq x n) 1 0 ≡ 0 = ap (λ b. cond {A = ℕ} b 1 0) (apart x n (codes "fail") e (either_false _ _ q.0).0) in
      omega (arith, never_fail ps q.1 x e, out, count-cons (bytes_eq x) n (alias_names bytes ps))

  pub states_distinct : (parts : List Part) → duplicate_state_fault bytes [] parts ≡ None → AreDistinct (state_names bytes parts)
  states_distinct parts h x = let k = once [] parts h (λ y. omega arith) x in omega (arith, k)

  last_one : (b : Bool) (n : ℕ) → n ≤ 1 → (b ≡ true → n ≡ 0) → n + cond b 1 0 ≤ 1
  last_one true n few none = omega (arith, none refl)
  last_one false n few none = omega arith

  all_distinct : (parts : List Part) → duplicate_state_fault bytes [] parts ≡ None → part_name_fault bytes parts ≡ None → AreDistinct (state_names bytes parts ++ (alias_names bytes parts ++ codes "fail" ∷ []))
  all_distinct parts h k x =
      let states = state_names bytes parts in
      let aliases = alias_names bytes parts in
      let few = once [] parts h (λ y. omega arith) x in
      let sum = last_one (bytes_eq x (codes "fail")) (count_by (bytes_eq x) states + count_by (bytes_eq x) aliases) (omega (arith, few)) (never_fail parts k x) in
      omega (arith, sum, count-append x states (aliases ++ codes "fail" ∷ []), count-push x aliases (codes "fail"))

  names_step : (p : Part) (ps : List Part) → state_names bytes (p ∷ ps) ≡ state_names bytes (p ∷ []) ++ state_names bytes ps
  names_step (Declaration name ts) ps = refl
  names_step (Alias name ms) ps = refl

  -- the names so far, and those from a part on
  module _ (names : List (List ℕ)) (parts : List Part) (i : ℕ) (p : Part) (lt : i < length parts) (read : p ≡ get_or parts i p) (is : names ++ state_names bytes (drop i parts) ≡ state_names bytes parts) where
    names_here : (names ++ state_names bytes (p ∷ [])) ++ state_names bytes (drop (i + 1) parts) ≡ state_names bytes parts
    names_here =
        let rest = drop (i + 1) parts in
        let cut : drop i parts ≡ p ∷ rest = drop_more parts i p lt ∙ ap (λ (x : Part). x ∷ rest) (sym read) in
        append_assoc names (state_names bytes (p ∷ [])) (state_names bytes rest) ∙ ap (λ (l : List (List ℕ)). names ++ l) (sym (names_step p rest) ∙ ap (λ (l : List Part). state_names bytes l) (sym cut)) ∙ is

    -- a state is one name more
    pub with_state : (name : Token) (ts : List TransitionText) → p ≡ Declaration name ts → AreDistinct (state_names bytes parts) → with_name names (name_of bytes name) ++ state_names bytes (drop (i + 1) parts) ≡ state_names bytes parts
    with_state name ts e distinct =
        let n = name_of bytes name in
        let rest = state_names bytes (drop (i + 1) parts) in
        let whole : (names ++ n ∷ []) ++ rest ≡ state_names bytes parts = subst (λ (x : Part). (names ++ state_names bytes (x ∷ [])) ++ rest ≡ state_names bytes parts) e names_here in
        ap (λ (l : List (List ℕ)). l ++ rest) (new_name names n [] (distinct_front (names ++ n ∷ []) rest (subst AreDistinct (sym whole) distinct))) ∙ whole

    pub without_state : (name : Token) (ms : List Token) → p ≡ Alias name ms → names ++ state_names bytes (drop (i + 1) parts) ≡ state_names bytes parts
    without_state name ms e =
        let rest = state_names bytes (drop (i + 1) parts) in
        let whole : (names ++ []) ++ rest ≡ state_names bytes parts = subst (λ (x : Part). (names ++ state_names bytes (x ∷ [])) ++ rest ≡ state_names bytes parts) e names_here in
        ap (λ (l : List (List ℕ)). l ++ rest) (sym (append-nil names)) ∙ whole

  state_count : (parts : List Part) → count_by is_state parts ≡ length (state_names bytes parts)
  state_count [] = refl
  state_count (Declaration name ts ∷ ps) = omega (arith, state_count ps, count-cons is_state (Declaration name ts) ps)
  state_count (Alias name ms ∷ ps) = omega (arith, state_count ps, count-cons is_state (Alias name ms) ps)

  alias_count : (parts : List Part) → count_by is_alias parts ≡ length (alias_names bytes parts)
  alias_count [] = refl
  alias_count (Declaration name ts ∷ ps) = omega (arith, alias_count ps, count-cons is_alias (Declaration name ts) ps)
  alias_count (Alias name ms ∷ ps) = omega (arith, alias_count ps, count-cons is_alias (Alias name ms) ps)

  some_state : (parts : List Part) → list_any is_state parts ≡ true → 0 < length (state_names bytes parts)
  some_state [] h = absurd (cc)
  some_state (Declaration name ts ∷ ps) h = omega arith
  some_state (Alias name ms ∷ ps) h = some_state ps h

  pub few_state_names : (parts : List Part) → states_fault parts ≡ None → length (state_names bytes parts) ≤ 1023
  few_state_names parts h = omega (arith, ltb-false 1023 (count_by is_state parts) (if_none _ _ _ h).0, state_count parts)

  few_alias_names : (parts : List Part) → aliases_fault parts ≡ None → length (alias_names bytes parts) ≤ 256
  few_alias_names parts h = omega (arith, ltb-false 256 (count_by is_alias parts) (if_none _ _ _ h).0, alias_count parts)

-- ---- what a formula's machine has

destination_of_name : (b : Bool) (o : Option ℕ) (n : ℕ) (to : Destination) → cond b (Some Fail) (option_map (λ k. State k) o) ≡ Some to → ((k : ℕ) → o ≡ Some k → k < n) → IsDestination n to
destination_of_name true o n to h k = let e : Fail ≡ to = cc in subst (λ (x : Destination). IsDestination n x) e tt
destination_of_name false None n to h k = absurd (cc)
destination_of_name false (Some j) n to h k = let e : State j ≡ to = cc in subst (λ (x : Destination). IsDestination n x) e (k j refl)

abbrev IsFallback : ℕ → StateDefinition → Type 0
IsFallback n s = (destination : Destination) → s.fallback ≡ Some destination → IsDestination n destination

abbrev AreListed : ℕ → StateDefinition → Type 0
AreListed n s = All (λ (t : Transition). IsDestination n t.destination) s.transitions

abbrev AreMembers : ℕ → AliasDefinition → Type 0
AreMembers n a = All (IsDestination n) a.members

module _ (bytes : List ℕ) (events states : List (List ℕ)) where
  destination_is : (token : Token) (to : Destination) → destination_said bytes states token ≡ Ok to → IsDestination (length states) to
  destination_is token to h =
      destination_of_name _ (number_of states (name_of bytes token)) (length states) to (said_is (destination_named states (name_of bytes token)) _ to h)
      (λ k e. (position-Some (bytes_eq (name_of bytes token)) states k [] e).0)

  -- a state of this name, whose destinations are there
  record IsState (name : List ℕ) (s : StateDefinition) : Type 0 where
    named : s.name ≡ name
    listed : AreListed (length states) s
    fallen : IsFallback (length states) s

  one_transition : (name : List ℕ) (s made : StateDefinition) (t : TransitionText) → with_transition bytes events states s t ≡ Ok made → IsState name s → IsState name made
  one_transition name s made (On event destination) h is =
      let a = then_ok (letter_said bytes events event) _ made h in
      let b = then_ok (destination_said bytes states destination) _ made a.2 in
      let e : with_listed s a.0 b.0 ≡ made = cc (b.2) in
      subst (λ (x : StateDefinition). IsState name x) e (record {
        named = is.named;
        listed = All-push (λ (x : Transition). IsDestination (length states) x.destination) s.transitions (record { letter = a.0; destination = b.0 }) is.listed (destination_is destination b.0 b.1);
        fallen = is.fallen;
      })
  one_transition name s made (Fallback word destination) h is =
      let b = then_ok (destination_said bytes states destination) _ made h in
      let x : StateDefinition = record s { fallback = Some b.0 } in
      let e : x ≡ made = cc (b.2) in
      subst (λ (y : StateDefinition). IsState name y) e (record {
        named = is.named;
        listed = is.listed;
        fallen = λ to k. let same : b.0 ≡ to = cc (k) in subst (λ (y : Destination). IsDestination (length states) y) same (destination_is destination b.0 b.1);
      })

  the_state : (name : Token) (made : StateDefinition) (ts : List TransitionText) → state_said bytes events states name ts ≡ Ok made → IsState (name_of bytes name) made
  the_state name made ts h =
      kept_by_each (with_transition bytes events states) (IsState (name_of bytes name)) (one_transition (name_of bytes name)) _ made ts h
      (record { named = refl; listed = λ k d lt. absurd (omega arith); fallen = λ to k. absurd (cc) })

  record IsAlias (name : List ℕ) (a : AliasDefinition) : Type 0 where
    named : a.name ≡ name
    members : AreMembers (length states) a

  one_member : (name : List ℕ) (a made : AliasDefinition) (t : Token) → with_member bytes states a t ≡ Ok made → IsAlias name a → IsAlias name made
  one_member name a made t h is =
      let b = then_ok (destination_said bytes states t) _ made h in
      let x : AliasDefinition = record a { members = a.members ++ b.0 ∷ [] } in
      let e : x ≡ made = cc (b.2) in
      subst (λ (y : AliasDefinition). IsAlias name y) e (record { named = is.named; members = All-push (IsDestination (length states)) a.members b.0 is.members (destination_is t b.0 b.1) })

  the_alias : (name : Token) (made : AliasDefinition) (ts : List Token) → alias_said bytes states name ts ≡ Ok made → IsAlias (name_of bytes name) made
  the_alias name made ts h = kept_by_each (with_member bytes states) (IsAlias (name_of bytes name)) (one_member (name_of bytes name)) _ made ts h (record { named = refl; members = λ k d lt. absurd (omega arith) })

  -- a machine with these names, whose destinations are there
  record IsMade (m : StateMachine) (named aliased : List (List ℕ)) : Type 0 where
    states_are : map (λ (s : StateDefinition). s.name) m.states ≡ named
    aliases_are : map (λ (a : AliasDefinition). a.name) m.aliases ≡ aliased
    listed : All (AreListed (length states)) m.states
    fallen : All (IsFallback (length states)) m.states
    members : All (AreMembers (length states)) m.aliases

  add_state : (m : StateMachine) (s : StateDefinition) (name : List ℕ) (named aliased : List (List ℕ)) → IsState name s → IsMade m named aliased → IsMade (record m { states = m.states ++ s ∷ [] }) (named ++ name ∷ []) aliased
  add_state m s name named aliased is made = record {
    states_are = map-append (λ (x : StateDefinition). x.name) m.states (s ∷ []) ∙ ap (λ (l : List (List ℕ)). l ++ s.name ∷ []) made.states_are ∙ ap (λ (x : List ℕ). named ++ x ∷ []) is.named;
    aliases_are = made.aliases_are;
    listed = All-push (AreListed (length states)) m.states s made.listed is.listed;
    fallen = All-push (IsFallback (length states)) m.states s made.fallen is.fallen;
    members = made.members;
  }

  add_alias : (m : StateMachine) (a : AliasDefinition) (name : List ℕ) (named aliased : List (List ℕ)) → IsAlias name a → IsMade m named aliased → IsMade (record m { aliases = m.aliases ++ a ∷ [] }) named (aliased ++ name ∷ [])
  add_alias m a name named aliased is made = record {
    states_are = made.states_are;
    aliases_are = map-append (λ (x : AliasDefinition). x.name) m.aliases (a ∷ []) ∙ ap (λ (l : List (List ℕ)). l ++ a.name ∷ []) made.aliases_are ∙ ap (λ (x : List ℕ). aliased ++ x ∷ []) is.named;
    listed = made.listed;
    fallen = made.fallen;
    members = All-push (AreMembers (length states)) m.aliases a made.members is.members;
  }

  all_parts : (m made : StateMachine) (parts : List Part) (named aliased : List (List ℕ)) → with_each (with_part bytes events states) m parts ≡ Ok made → IsMade m named aliased → IsMade made (named ++ state_names bytes parts) (aliased ++ alias_names bytes parts)
  all_parts m made [] named aliased h is =
      let e : m ≡ made = cc in
      subst (λ (l : List (List ℕ)). IsMade made l (aliased ++ [])) (sym (append-nil named))
      (subst (λ (l : List (List ℕ)). IsMade made named l) (sym (append-nil aliased)) (subst (λ (x : StateMachine). IsMade x named aliased) e is))
  all_parts m made (Declaration name ts ∷ ps) named aliased h is =
      let a = then_ok (with_part bytes events states m (Declaration name ts)) _ made h in
      let b = then_ok (state_said bytes events states name ts) _ a.0 a.1 in
      let x : StateMachine = record m { states = m.states ++ b.0 ∷ [] } in
      let e : x ≡ a.0 = cc (b.2) in
      let one = subst (λ (y : StateMachine). IsMade y (named ++ name_of bytes name ∷ []) aliased) e (add_state m b.0 (name_of bytes name) named aliased (the_state name b.0 ts b.1) is) in
      subst (λ (l : List (List ℕ)). IsMade made l (aliased ++ alias_names bytes ps)) (append_assoc named (name_of bytes name ∷ []) (state_names bytes ps))
      (all_parts a.0 made ps (named ++ name_of bytes name ∷ []) aliased a.2 one)
  all_parts m made (Alias name ms ∷ ps) named aliased h is =
      let a = then_ok (with_part bytes events states m (Alias name ms)) _ made h in
      let b = then_ok (alias_said bytes states name ms) _ a.0 a.1 in
      let x : StateMachine = record m { aliases = m.aliases ++ b.0 ∷ [] } in
      let e : x ≡ a.0 = cc (b.2) in
      let one = subst (λ (y : StateMachine). IsMade y named (aliased ++ name_of bytes name ∷ [])) e (add_alias m b.0 (name_of bytes name) named aliased (the_alias name b.0 ms b.1) is) in
      subst (λ (l : List (List ℕ)). IsMade made (named ++ state_names bytes ps) l) (append_assoc aliased (name_of bytes name ∷ []) (alias_names bytes ps))
      (all_parts a.0 made ps named (aliased ++ name_of bytes name ∷ []) a.2 one)

-- what a formula without faults says is a machine
pub is_machine : (bytes : List ℕ) (events : List (List ℕ)) (parts : List Part) (made : StateMachine) → list_any is_state parts ≡ true → aliases_fault parts ≡ None → part_name_fault bytes parts ≡ None → duplicate_state_fault bytes [] parts ≡ None → states_fault parts ≡ None
    → with_each (with_part bytes events (state_names bytes parts)) (record { states = []; aliases = [] }) parts ≡ Ok made → IsMachine made
is_machine bytes events parts made some aliases names distinct states h =
    let is = all_parts bytes events (state_names bytes parts) (record { states = []; aliases = [] }) made parts [] [] h
    (record { states_are = refl; aliases_are = refl; listed = λ k d lt. absurd (omega arith); fallen = λ k d lt. absurd (omega arith); members = λ k d lt. absurd (omega arith) }) in
    let many : length made.states ≡ length (state_names bytes parts) = sym (length-map made.states (λ (s : StateDefinition). s.name)) ∙ ap (λ (l : List (List ℕ)). length l) is.states_are in
    let aliased : length made.aliases ≡ length (alias_names bytes parts) = sym (length-map made.aliases (λ (a : AliasDefinition). a.name)) ∙ ap (λ (l : List (List ℕ)). length l) is.aliases_are in
    let these : state_names bytes parts ++ (alias_names bytes parts ++ codes "fail" ∷ []) ≡ category_names made = rw (is.states_are, is.aliases_are) refl in
    record {
      some_states = omega (arith, many, some_state bytes parts some);
      few_states = omega (arith, many, few_state_names bytes parts states);
      few_aliases = omega (arith, aliased, few_alias_names bytes parts aliases);
      listed = subst (λ n. All (AreListed n) made.states) (sym many) is.listed;
      fallen = subst (λ n. All (IsFallback n) made.states) (sym many) is.fallen;
      members = subst (λ n. All (AreMembers n) made.aliases) (sym many) is.members;
      distinct = subst AreDistinct these (all_distinct bytes parts distinct names);
    }
