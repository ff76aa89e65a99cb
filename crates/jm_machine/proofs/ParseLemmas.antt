-- When an instance of the rules of a grammar is cut.
use Rattle.std.proofs.Common.{◌≡◌, ◌≢◌, ℕ, zero, suc, ◌<◌, ◌⊎◌, inl, inr, Bool, true, false, ◌&&◌, List, [], ◌∷◌, ◌++◌, Option, Some, None, length, map, get_or, bit_and, refl, sym, ◌∙◌, ap, subst, arith}
use Rattle.std.specs.Prelude.{All, Contains, ◌↔◌, IsSomeAnd, codes, slice_get, unwrap_or, MatchBool}
use Rattle.std.specs.List.{AllByRecursion, list_any}
use Rattle.std.specs.Str.{bytes_eq}
use Rattle.std.proofs.lemmas.Bool.{false≢true}
use Rattle.std.proofs.lemmas.Option.{unwrap_or-slice_get}
use Rattle.std.proofs.lemmas.List.Quantifiers.{position-Some}
use Rattle.std.proofs.lemmas.List.Elements.{All-append, All-cons}
use Rattle.jm_model.specs.Meanings.{Meaning, IsAvailable, IsCreated, CanHit, IsCutWord}
use Rattle.jm_events.specs.Names.{number_of}
use Rattle.jm_events.proofs.NameLemmas.{same_name, list_any-place}
use Rattle.jm_goal.specs.Goals.{GoalDefinition}
use Rattle.jm_grammar.specs.Meanings as grammar
use Rattle.jm_grammar.specs.Categories as categories
use Rattle.jm_grammar.specs.Categories.{GrammarHolds}
use Rattle.jm_earley.specs.Charts.{ChartsDefinition}
use Rattle.jm_earley.specs.DeadSets as charts
use Rattle.jm_earley.specs.EarleySets.{IsAliveFor}
use Rattle.jm_machine.specs.declared.formula.Formula.{Formula}
use Rattle.jm_machine.specs.declared.formula.Formula.TheVariants.{Machine, Regular, RegularSuffix, Temporal, Grammatical, GrammaticalSuffix}
use Rattle.jm_machine.specs.declared.engine.Engine.TheVariants.{Parses}
use Rattle.jm_machine.specs.declared.place.Place.{Place}
use Rattle.jm_machine.specs.declared.place.Place.TheVariants.{Start, Trap, State, Parse}
use Rattle.jm_machine.specs.Formulas.{category_names, is_grammar}
use Rattle.jm_machine.specs.Rests.{IsRest}
use Rattle.jm_machine.specs.PropertyMeanings.{PropertyRules, IsNamedCategory, IsInCategory, Resets, property_meaning, is_failing_grammar}
use Rattle.jm_machine.specs.CompiledProperties.{CompiledProperty, IsCompiledProperty, IsHandledBy, may_begin}
use Rattle.jm_machine.specs.Places.{IsPlaceAfter, IsBegun}
use Rattle.jm_machine.specs.Liveness.{GoesOn, BeginsWith, CanMatch}
use Rattle.jm_machine.proofs.PropertyLemmas.{handled_told, some_within, created_later}
use Rattle.jm_machine.proofs.CutLemmas.{all_places, all_recursion, word_there, trap_quiet, cut_words}
use Rattle.jm_machine.proofs.QuietLemmas.{IsPlain, never_plainly}

names_of_grammar : (f : Formula) → is_grammar f ≡ true → category_names f ≡ categories.category_names
names_of_grammar (Grammatical g) is = refl
names_of_grammar (GrammaticalSuffix g) is = refl
names_of_grammar (Machine m) is = absurd (false≢true is)
names_of_grammar (Regular e) is = absurd (false≢true is)
names_of_grammar (RegularSuffix e) is = absurd (false≢true is)
names_of_grammar (Temporal f) is = absurd (false≢true is)

-- the categories of a grammar are `match` and `fail`
name_number : (name : List ℕ) (category : ℕ) → number_of categories.category_names name ≡ Some category → (category ≡ 0) ⊎ (name ≡ codes "fail")
name_number name category at = by_number category (position-Some (bytes_eq name) categories.category_names category (codes "fail") at)
  where
    by_number : (k : ℕ) → (k < 2) × (bytes_eq name (get_or categories.category_names k (codes "fail")) ≡ true) × ((i : ℕ) → i < k → bytes_eq name (get_or categories.category_names i (codes "fail")) ≡ false) → (k ≡ 0) ⊎ (name ≡ codes "fail")
    by_number zero h = inl refl
    by_number (suc zero) h = inr (same_name name (codes "fail") h.1)
    by_number (suc (suc k)) h = absurd (omega (arith, h.0))

-- the first of some handlers has the first group
first_handler : (f : List ℕ → Option ℕ) (groups : List ℕ) (handlers : List (List ℕ)) → map {A = ℕ} {B = Option ℕ} Some groups ≡ map f handlers → groups ≢ []
    → (name : List ℕ) × (group : ℕ) × (slice_get handlers 0 ≡ Some name) × (f name ≡ Some group)
first_handler f [] handlers found some = absurd (some refl)
first_handler f (group ∷ groups) [] found some = absurd cc
first_handler f (group ∷ groups) (name ∷ names) found some =
    let head : Some group ≡ f name = cc in
    (name, group, refl, sym head)

no_handler : (f : List ℕ → Option ℕ) (groups : List ℕ) (handlers : List (List ℕ)) (k : ℕ) → map {A = ℕ} {B = Option ℕ} Some groups ≡ map f handlers → k < length handlers → groups ≢ []
no_handler f groups [] k found less = absurd (omega (arith, less))
no_handler f [] (name ∷ names) k found less = absurd cc
no_handler f (group ∷ groups) (name ∷ names) k found less = λ (none : group ∷ groups ≡ []). absurd cc

no_any : (p : List ℕ → Bool) (xs : List (List ℕ)) → list_any p xs ≡ true → 0 < length xs
no_any p [] h = absurd (false≢true h)
no_any p (x ∷ xs) h = omega arith

module _ (d : PropertyRules) (c : ChartsDefinition) (goal : GoalDefinition) (set : IsCompiledProperty (record { definition = d; engine = Parses c })) (params : c.params ≡ d.masks)
    (is : is_grammar d.formula ≡ true) (found : map {A = ℕ} {B = Option ℕ} Some goal.groups ≡ map (number_of (category_names d.formula)) d.handlers)
    (firsts : (e : ℕ) → may_begin goal e ↔ ((d.creation ≡ []) ⊎ Contains d.creation e)) where
  abbrev rules : CompiledProperty
  rules = record { definition = d; engine = Parses c }

  abbrev m : Meaning
  m = property_meaning d

  available_same : (dead e : ℕ) → IsAvailable m dead e ↔ charts.IsAvailable c.params dead e
  available_same dead e =
      let index : unwrap_or (slice_get d.masks e) 0 ≡ get_or c.params e 0 = unwrap_or-slice_get d.masks e 0 ∙ ap (λ (xs : List ℕ). get_or xs e 0) (sym params) in (
        λ h. (subst (λ (xs : List ℕ). e < length xs) (sym params) h.0, subst (λ (n : ℕ). bit_and n dead ≡ 0) index h.1),
        λ h. (subst (λ (xs : List ℕ). e < length xs) params h.0, subst (λ (n : ℕ). bit_and n dead ≡ 0) (sym index) h.1),
      )

  -- where `fail` is handled, what is cut has no letter
  pub failing_cut : (w : List ℕ) (dead : ℕ) → is_failing_grammar d ≡ true → ((e : ℕ) → charts.IsAvailable c.params dead e → ⊥) ↔ IsCutWord m w dead
  failing_cut w dead failing = (
    λ none k less. subst (λ (b : Bool). MatchBool b ((e : ℕ) → IsAvailable m dead e → ⊥) (CanHit m w dead 0 → ⊥)) (sym failing) (λ e here. none e ((available_same dead e).0 here)),
    λ cut e here.
        let any : list_any (bytes_eq (codes "fail")) d.handlers ≡ true = subst (λ (b : Bool). (b && list_any (bytes_eq (codes "fail")) d.handlers) ≡ true) is failing in
        let none = subst (λ (b : Bool). MatchBool b ((e : ℕ) → IsAvailable m dead e → ⊥) (CanHit m w dead 0 → ⊥)) failing (cut 0 (no_any (bytes_eq (codes "fail")) d.handlers any)) in
        none e ((available_same dead e).1 here),
  )

  module _ (matching : is_failing_grammar d ≡ false) where
    no_fail : list_any (bytes_eq (codes "fail")) d.handlers ≡ false
    no_fail = subst (λ (b : Bool). (b && list_any (bytes_eq (codes "fail")) d.handlers) ≡ false) is matching

    -- a handler is for `match`
    only_match : (k : ℕ) (name : List ℕ) (category : ℕ) → slice_get d.handlers k ≡ Some name → number_of (category_names d.formula) name ≡ Some category → category ≡ 0
    only_match k name category at number =
        elim (name_number name category (subst (λ (names : List (List ℕ)). number_of names name ≡ Some category) (names_of_grammar d.formula is) number)) [
          | inl first ↦ first
          | inr fails ↦ absurd (false≢true (sym no_fail ∙ subst (λ (n : List ℕ). list_any (bytes_eq n) d.handlers ≡ true) fails (list_any-place d.handlers name k at)))
        ]

    -- a word in a handled category is one of the grammar
    hit_is_word : (x : List ℕ) → All (λ e. e < length c.params) x → x ≢ [] → (k : ℕ) → IsInCategory d x k → grammar.IsWord c.grammar x
    hit_is_word x letters some k hit = by_name (slice_get d.handlers k) refl ((handled_told rules set x letters some k).1 hit)
      where
        by_number : (name : List ℕ) → slice_get d.handlers k ≡ Some name → (o : Option ℕ) → number_of (category_names d.formula) name ≡ o → IsSomeAnd o (λ category. GrammarHolds c.grammar category x) → grammar.IsWord c.grammar x
        by_number name at None number h = absurd h
        by_number name at (Some category) number h = subst (λ (n : ℕ). GrammarHolds c.grammar n x) (only_match k name category at number) h

        by_name : (o : Option (List ℕ)) → slice_get d.handlers k ≡ o → IsSomeAnd o (λ name. IsSomeAnd (number_of (category_names d.formula) name) (λ category. GrammarHolds c.grammar category x)) → grammar.IsWord c.grammar x
        by_name None at h = absurd h
        by_name (Some name) at h = by_number name at (number_of (category_names d.formula) name) refl h

    -- a word of the grammar is in the category of the first handler
    word_is_hit : (x : List ℕ) → All (λ e. e < length c.params) x → x ≢ [] → goal.groups ≢ [] → grammar.IsWord c.grammar x → IsInCategory d x 0
    word_is_hit x letters more some word =
        let first = first_handler (number_of (category_names d.formula)) goal.groups d.handlers found some in
        let zero_category : first.1 ≡ 0 = only_match 0 first.0 first.1 first.2 first.3 in
        let number : number_of (category_names d.formula) first.0 ≡ Some 0 = first.3 ∙ ap (λ (n : ℕ). Some n) zero_category in
        let handled : IsHandledBy rules x 0 =
        subst (λ (o : Option (List ℕ)). IsSomeAnd o (λ name. IsSomeAnd (number_of (category_names d.formula) name) (λ category. GrammarHolds c.grammar category x))) (sym first.2)
        (subst (λ (o : Option ℕ). IsSomeAnd o (λ category. GrammarHolds c.grammar category x)) (sym number) word) in
        (handled_told rules set x letters more 0).0 handled

    -- where a word is in a handled category, there is a handler
    handled_some : (x : List ℕ) (k : ℕ) → IsInCategory d x k → goal.groups ≢ []
    handled_some x k hit = no_handler (number_of (category_names d.formula)) goal.groups d.handlers k found (some_within (IsNamedCategory d x) d.handlers k hit)

    all_available : (dead : ℕ) (u : List ℕ) → AllByRecursion (IsAvailable m dead) u ↔ All (charts.IsAvailable c.params dead) u
    all_available dead [] = (λ h. all_places (charts.IsAvailable c.params dead) [] tt, λ h. tt)
    all_available dead (e ∷ u) = (
      λ h. All-cons (charts.IsAvailable c.params dead) e u ((available_same dead e).0 h.0) ((all_available dead u).0 h.1),
      λ h. let each = all_recursion (charts.IsAvailable c.params dead) (e ∷ u) h in
          ((available_same dead e).1 each.0, (all_available dead u).1 (all_places (charts.IsAvailable c.params dead) u each.1)),
    )

    below : (dead : ℕ) (u : List ℕ) → AllByRecursion (IsAvailable m dead) u → All (λ e. e < length c.params) u
    below dead u h = all_places (λ e. e < length c.params) u (go u h)
      where
        go : (u : List ℕ) → AllByRecursion (IsAvailable m dead) u → AllByRecursion (λ e. e < length c.params) u
        go [] h = tt
        go (e ∷ u) h = (((available_same dead e).0 h.0).0, go u h.1)

    -- a word that began so can't be hit again exactly where what is left of it isn't alive
    word_never_hit : (w rest : List ℕ) (dead : ℕ) → IsRest (Resets d) w rest → All (λ e. e < length c.params) rest → IsBegun rules w → (CanHit m w dead 0 → ⊥) ↔ ((goal.groups ≢ []) × IsAliveFor c.grammar c.params dead rest → ⊥)
    word_never_hit w rest dead left letters begun = (
      λ never alive. to never alive.0 alive.1.0 alive.1.1 alive.1.2 alive.1.3,
      λ quiet. never.1 (λ e may created u later hits.
          let available : AllByRecursion (IsAvailable m dead) (e ∷ u) = (may, later) in
          let all = All-append (λ e. e < length c.params) rest (e ∷ u) letters (below dead (e ∷ u) available) in
          quiet (
            handled_some (rest ++ e ∷ u) hits.0 hits.1,
            (e ∷ u, (all_available dead (e ∷ u)).0 available, hit_is_word (rest ++ e ∷ u) all (word_there rest e u) hits.0 hits.1, word_there [] e u),
          )),
    )
      where
        never : (CanHit m w dead 0 → ⊥) ↔ ((e : ℕ) → IsAvailable m dead e → IsCreated m (w ++ e ∷ []) → IsPlain d dead rest e)
        never = never_plainly d w rest dead left

        to : (CanHit m w dead 0 → ⊥) → goal.groups ≢ [] → (u : List ℕ) → All (charts.IsAvailable c.params dead) u → grammar.IsWord c.grammar (rest ++ u) → u ≢ [] → ⊥
        to cut some [] avail word more = more refl
        to cut some (e ∷ u) avail word more =
            let by = (all_available dead (e ∷ u)).1 avail in
            let all = All-append (λ e. e < length c.params) rest (e ∷ u) letters (below dead (e ∷ u) by) in
            never.0 cut e by.0 ((created_later m w (e ∷ []) begun.0).0 begun.1) u by.1 (0, word_is_hit (rest ++ e ∷ u) all (word_there rest e u) some word)

    -- the empty word can't be hit exactly where no first letter goes on
    start_never_hit : (dead : ℕ) → (CanHit m [] dead 0 → ⊥) ↔ ((goal.groups ≢ []) × ((e : ℕ) × BeginsWith c goal dead e) → ⊥)
    start_never_hit dead = (
      λ cut begins. to cut begins.0 begins.1.0 begins.1.1.0 begins.1.1.1 begins.1.1.2,
      λ quiet. never.1 (λ e may created u later hits.
          let available : AllByRecursion (IsAvailable m dead) (e ∷ u) = (may, later) in
          let word = hit_is_word (e ∷ u) (below dead (e ∷ u) available) (word_there [] e u) hits.0 hits.1 in
          quiet (
            handled_some (e ∷ u) hits.0 hits.1,
            (e, ((firsts e).1 created, (available_same dead e).0 may, on e u later word)),
          )),
    )
      where
        never : (CanHit m [] dead 0 → ⊥) ↔ ((e : ℕ) → IsAvailable m dead e → IsCreated m (e ∷ []) → IsPlain d dead [] e)
        never = never_plainly d [] [] dead refl

        on : (e : ℕ) (u : List ℕ) → AllByRecursion (IsAvailable m dead) u → grammar.IsWord c.grammar (e ∷ u) → GoesOn c dead e
        on e [] avail word = inl word
        on e (x ∷ u) avail word = inr (x ∷ u, (all_available dead (x ∷ u)).0 avail, word, word_there [] x u)

        hits_on : (e : ℕ) (u : List ℕ) → (CanHit m [] dead 0 → ⊥) → goal.groups ≢ [] → may_begin goal e → AllByRecursion (IsAvailable m dead) (e ∷ u) → grammar.IsWord c.grammar (e ∷ u) → ⊥
        hits_on e u cut some begins avail word =
            never.0 cut e avail.0 ((firsts e).0 begins) u avail.1 (0, word_is_hit (e ∷ u) (below dead (e ∷ u) avail) (word_there [] e u) some word)

        to : (CanHit m [] dead 0 → ⊥) → goal.groups ≢ [] → (e : ℕ) → may_begin goal e → charts.IsAvailable c.params dead e → GoesOn c dead e → ⊥
        to cut some e begins avail (inl word) = hits_on e [] cut some begins ((available_same dead e).1 avail, tt) word
        to cut some e begins avail (inr more) = hits_on e more.0 cut some begins ((available_same dead e).1 avail, (all_available dead more.0).1 more.1) more.2

    -- of a place's word this is left
    parse_never_hit : (place : Place) (w rest : List ℕ) (dead : ℕ) → IsPlaceAfter rules place w → IsRest (Resets d) w rest → All (λ e. e < length c.params) rest
        → (CanHit m w dead 0 → ⊥) ↔ ((goal.groups ≢ []) × CanMatch c goal place rest dead → ⊥)
    parse_never_hit Start w rest dead h left letters = subst (λ (x : List ℕ). (CanHit m x dead 0 → ⊥) ↔ ((goal.groups ≢ []) × ((e : ℕ) × BeginsWith c goal dead e) → ⊥)) (sym h) (start_never_hit dead)
    parse_never_hit Trap w rest dead h left letters =
        (λ never both. both.1, λ _ can. trap_quiet d w dead h.0 h.1 can)
    parse_never_hit (Parse chart) w rest dead h left letters = word_never_hit w rest dead left letters h.0
    parse_never_hit (State s) w rest dead h left letters = absurd h.1.2

  pub matching_cut : is_failing_grammar d ≡ false → (place : Place) (w rest : List ℕ) (dead : ℕ) → IsPlaceAfter rules place w → IsRest (Resets d) w rest → All (λ e. e < length c.params) rest
      → ((goal.groups ≢ []) × CanMatch c goal place rest dead → ⊥) ↔ IsCutWord m w dead
  matching_cut matching place w rest dead h left letters =
      let never = parse_never_hit matching place w rest dead h left letters in
      let cut = cut_words d w dead matching in
      (λ quiet. cut.0 (never.1 quiet), λ is_cut. never.0 (cut.1 is_cut))
