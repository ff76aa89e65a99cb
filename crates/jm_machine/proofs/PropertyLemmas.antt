-- Places of compiled rules: the next place, and which handlers a word hits.
use Rattle.std.proofs.Common.{◌≡◌, ◌≢◌, ◌⊎◌, inl, inr, Result, Ok, Err, IfOk, ℕ, ◌<◌, List, [], ◌∷◌, ◌++◌, length, get_or, Option, Some, None, map, refl, sym, subst, arith}
use Rattle.std.specs.Prelude.{All, Contains, ◌↔◌, IsBitSet, IsSomeAnd, bit_and, slice_get}
use Rattle.std.specs.Str.{bytes_eq}
use Rattle.std.proofs.lemmas.List.Quantifiers.{position-Some}
use Rattle.std.proofs.lemmas.Option.{slice_get_within, slice_get-get_or}
use Rattle.jm_model.specs.Meanings.{Meaning, IsCreated, IsHit}
use Rattle.jm_events.specs.Names.{number_of}
use Rattle.jm_model.specs.declared.step.NoMemory.{NoMemory}
use Rattle.jm_machine.specs.declared.place.Place.{Place}
use Rattle.jm_machine.specs.declared.place.Place.TheVariants.{Start, Trap, State, Parse}
use Rattle.jm_machine.specs.declared.engine.Engine.{Engine}
use Rattle.jm_machine.specs.declared.engine.Engine.TheVariants.{States, Parses}
use Rattle.jm_machine.specs.Engines.{letters_of_engine, IsPlaceOf, EngineHolds}
use Rattle.jm_machine.specs.Formulas.{category_names, CategoryHolds}
use Rattle.jm_machine.specs.Rests.{IsAsked}
use Rattle.jm_machine.specs.PropertyMeanings.{IsNamedCategory, IsInCategory, Resets, property_meaning}
use Rattle.jm_machine.specs.CompiledProperties.{CompiledProperty, IsCompiledProperty, IsHandledBy, numbers_of}
use Rattle.jm_machine.specs.Places.{IsPlaceAfter, IsBegun, Stands}
use Rattle.jm_machine.proofs.OptionLemmas.{some_more, looked_up}
use Rattle.jm_machine.proofs.GoalLemmas.{no_bit, common_bit, number_in, number_set}
use Rattle.jm_machine.proofs.RestLemmas.{letter_there, one_asked, asked_some, asked_anew, asked_on}

-- ---- groups and categories

number_within : (names : List (List ℕ)) (name : List ℕ) (category : ℕ) → number_of names name ≡ Some category → category < length names
number_within names name category e = (position-Some (bytes_eq name) names category name e).0

number_below : (names : List (List ℕ)) (o : Option (List ℕ)) (group : ℕ) → IsSomeAnd o (λ name. IsSomeAnd (number_of names name) (λ n. n ≡ group)) → group < length names
number_below names None group h = absurd h
number_below names (Some name) group h = by_case (number_of names name) refl h
  where
    by_case : (q : Option ℕ) → number_of names name ≡ q → IsSomeAnd q (λ n. n ≡ group) → group < length names
    by_case None e g = absurd g
    by_case (Some n) e g = subst (λ m. m < length names) g (number_within names name n e)

-- the group of each handler is one of the categories
pub groups_within : (names handlers : List (List ℕ)) (groups : List ℕ) (bound : ℕ) → bound ≡ length names → map {A = ℕ} {B = Option ℕ} Some groups ≡ map (number_of names) handlers → All (λ group. group < bound) groups
groups_within names handlers groups bound same found = λ k d less.
    let here : IsSomeAnd (slice_get groups k) (λ n. n ≡ get_or groups k d) = rw (slice_get-get_or groups k d less) refl in
    let named = (looked_up (λ n. n ≡ get_or groups k d) (number_of names) groups handlers k found).0 here in
    subst (λ n. get_or groups k d < n) (sym same) (number_below names (slice_get handlers k) (get_or groups k d) named)

-- ---- a letter more

some_letter : (w : List ℕ) → w ≢ [] → 0 < length w
some_letter [] some = absurd (some refl)
some_letter (d ∷ w) some = omega arith

-- what follows a word with a letter doesn't change how it begins
pub created_later : (m : Meaning) (w u : List ℕ) → w ≢ [] → IsCreated m w ↔ IsCreated m (w ++ u)
created_later m [] u some = absurd (some refl)
created_later m (d ∷ w) u some = (λ h. h, λ h. h)

pub begun_later : (r : CompiledProperty) (w : List ℕ) (e : ℕ) → IsBegun r w → IsBegun r (w ++ e ∷ [])
begun_later r w e h = (letter_there w e, (created_later (property_meaning r.definition) w (e ∷ []) h.0).0 h.1)

-- a place is that of a word of letters that are there
pub place_letters : (engine : Engine) (place : Place) (w : List ℕ) → IsPlaceOf engine place w → All (λ letter. letter < letters_of_engine engine) w
place_letters (States t) (State state) w h = h.0
place_letters (States t) (Parse chart) w h = absurd h
place_letters (States t) Start w h = absurd h
place_letters (States t) Trap w h = absurd h
place_letters (Parses c) (Parse chart) w h = h.0
place_letters (Parses c) (State state) w h = absurd h
place_letters (Parses c) Start w h = absurd h
place_letters (Parses c) Trap w h = absurd h

-- the empty word has no place, nor has one that began otherwise
no_place : (engine : Engine) (place : Place) (w : List ℕ) → IsPlaceOf engine place w → (place ≡ Start) ⊎ (place ≡ Trap) → ⊥
no_place (States t) (State state) w h which = elim which [ inl same ↦ absurd cc | inr same ↦ absurd cc ]
no_place (States t) (Parse chart) w h which = h
no_place (States t) Start w h which = h
no_place (States t) Trap w h which = h
no_place (Parses c) (Parse chart) w h which = elim which [ inl same ↦ absurd cc | inr same ↦ absurd cc ]
no_place (Parses c) (State state) w h which = h
no_place (Parses c) Start w h which = h
no_place (Parses c) Trap w h which = h

-- ---- what hits

pub some_within : {X : Type 0} (P : X → Type 0) (xs : List X) (k : ℕ) → IsSomeAnd (slice_get xs k) P → k < length xs
some_within {X} P xs k h = by_case (slice_get xs k) refl h
  where
    by_case : (o : Option X) → slice_get xs k ≡ o → IsSomeAnd o P → k < length xs
    by_case None at g = absurd g
    by_case (Some x) at g = slice_get_within xs k x at

module _ (r : CompiledProperty) (set : IsCompiledProperty r) where
  abbrev Reset : List ℕ → Type 0
  Reset = Resets r.definition

  module _ (x : List ℕ) (letters : All (λ letter. letter < letters_of_engine r.engine) x) (some : x ≢ []) where
    -- what runs the property tells the categories that hold of the word
    held : (category : ℕ) → category < length (category_names r.definition.formula) → EngineHolds r.engine category x ↔ CategoryHolds r.definition.formula (length r.definition.masks) category x
    held category less =
        subst (λ n. EngineHolds r.engine category x ↔ CategoryHolds r.definition.formula n category x) set.letters
        (set.compiled x letters (some_letter x some) category less)

    pub handled_told : (k : ℕ) → IsHandledBy r x k ↔ IsInCategory r.definition x k
    handled_told k = (
      some_more _ (IsNamedCategory r.definition x) (slice_get r.definition.handlers k)
          (λ name at. some_more (λ category. EngineHolds r.engine category x) (λ category. CategoryHolds r.definition.formula (length r.definition.masks) category x)
          (number_of (category_names r.definition.formula) name) (λ category found. (held category (number_within (category_names r.definition.formula) name category found)).0)),
      some_more (IsNamedCategory r.definition x) _ (slice_get r.definition.handlers k)
          (λ name at. some_more (λ category. CategoryHolds r.definition.formula (length r.definition.masks) category x) (λ category. EngineHolds r.engine category x)
          (number_of (category_names r.definition.formula) name) (λ category found. (held category (number_within (category_names r.definition.formula) name category found)).1)),
    )

  -- a word hits the handlers that what runs the property tells of what is asked after it
  pub hit_handled : (w x : List ℕ) → All (λ letter. letter < letters_of_engine r.engine) x → IsBegun r w → IsAsked Reset w x → (k : ℕ) → IsHandledBy r x k ↔ IsHit (property_meaning r.definition) w k
  hit_handled w x letters begun asked k =
      let told = handled_told x letters (asked_some Reset w x asked).1 k in (
        λ handled.
            let h = told.0 handled in
            (begun.0, begun.1, some_within (IsNamedCategory r.definition x) r.definition.handlers k h, (x, asked, h)),
        λ hit.
            let run = hit.3 in
            told.1 (subst (λ (y : List ℕ). IsInCategory r.definition y k) (one_asked Reset w run.0 x run.1 asked) run.2),
      )

  -- the bits of the handlers of a place's words
  pub run_hits : (place : Place) (w : List ℕ) → IsBegun r w → Stands r place w → (bits : ℕ) → ((x : List ℕ) → IsPlaceOf r.engine place x → (k : ℕ) → IsBitSet bits k ↔ IsHandledBy r x k) → (k : ℕ) → IsBitSet bits k ↔ IsHit (property_meaning r.definition) w k
  run_hits place w begun stands bits handled k =
      let hit = hit_handled w stands.0 (place_letters r.engine place stands.0 stands.2) begun stands.1 k in
      let bit = handled stands.0 stands.2 k in
      (λ b. hit.0 (bit.0 b), λ h. bit.1 (hit.1 h))

-- a place of its own is that of the empty word, or of one that began otherwise; any other stands for its words
pub run_split : (r : CompiledProperty) (place : Place) (w : List ℕ) → (place ≡ Start → ⊥) → (place ≡ Trap → ⊥) → IsPlaceAfter r place w → IsBegun r w × Stands r place w
run_split r Start w start trap h = absurd (start refl)
run_split r Trap w start trap h = absurd (trap refl)
run_split r (State s) w start trap h = (h.0, h.1)
run_split r (Parse c) w start trap h = (h.0, h.1)

-- a place that stands for a word which began so is the word's
placed : (r : CompiledProperty) (place : Place) (w : List ℕ) → IsBegun r w → Stands r place w → IsPlaceAfter r place w
placed r (State s) w begun stands = (begun, stands)
placed r (Parse c) w begun stands = (begun, stands)
placed r Start w begun stands = absurd (no_place r.engine Start stands.0 stands.2 (inl refl))
placed r Trap w begun stands = absurd (no_place r.engine Trap stands.0 stands.2 (inr refl))

-- ---- what is answered

module _ (r : CompiledProperty) where
  pub went_on : (result : Result Place NoMemory) (before : Place) (e : ℕ) → IfOk result (λ next. (w : List ℕ) → Stands r before w → Stands r next (w ++ e ∷ [])) → (before ≡ Start → ⊥) → (before ≡ Trap → ⊥)
      → IfOk result (λ next. (w : List ℕ) → IsPlaceAfter r before w → IsPlaceAfter r next (w ++ e ∷ []))
  went_on (Err x) before e stands start trap = tt
  went_on (Ok next) before e stands start trap = λ w h.
      let run = run_split r before w start trap h in
      placed r next (w ++ e ∷ []) (begun_later r w e run.0) (stands w run.1)

  -- from the start where the property is reset, and else from the place
  pub went_anew : (result : Result Place NoMemory) (before : Place) (e : ℕ) → IfOk result (λ first. IsPlaceOf r.engine first (e ∷ [])) → ((x : List ℕ) → x ≢ [] → IsPlaceOf r.engine before x → Resets r.definition x)
      → IfOk result (λ next. (w : List ℕ) → Stands r before w → Stands r next (w ++ e ∷ []))
  went_anew (Err x) before e place resets = tt
  went_anew (Ok next) before e place resets = λ w h.
      (e ∷ [], asked_anew (Resets r.definition) w h.0 e h.1 (resets h.0 (asked_some (Resets r.definition) w h.0 h.1).1 h.2), place)

  pub went_past : (result : Result Place NoMemory) (before : Place) (e : ℕ) → IfOk result (λ next. (x : List ℕ) → IsPlaceOf r.engine before x → IsPlaceOf r.engine next (x ++ e ∷ [])) → ((x : List ℕ) → x ≢ [] → IsPlaceOf r.engine before x → Resets r.definition x → ⊥)
      → IfOk result (λ next. (w : List ℕ) → Stands r before w → Stands r next (w ++ e ∷ []))
  went_past (Err x) before e place never = tt
  went_past (Ok next) before e place never = λ w h.
      (h.0 ++ e ∷ [], asked_on (Resets r.definition) w h.0 e h.1 (never h.0 (asked_some (Resets r.definition) w h.0 h.1).1 h.2), place h.0 h.2)

-- ---- what resets

-- bits of the handlers of a word tell whether it resets the property
pub reset_told : (r : CompiledProperty) (set : IsCompiledProperty r) (resets count : ℕ) → ((k : ℕ) → IsBitSet resets k → k < count) → r.definition.resets ≡ numbers_of resets count
    → (x : List ℕ) → All (λ letter. letter < letters_of_engine r.engine) x → x ≢ [] → (bits : ℕ) → ((k : ℕ) → IsBitSet bits k ↔ IsHandledBy r x k) → (bit_and bits resets ≢ 0) ↔ Resets r.definition x
reset_told r set resets count below listed x letters some bits handled =
    let common = common_bit bits resets count below in (
      λ apart.
          let h = common.0 apart in
          let told = handled_told r set x letters some h.0 in
          (h.0, subst (λ (xs : List ℕ). Contains xs h.0) (sym listed) (number_in resets count h.0 (below h.0 h.1) h.1), told.0 ((handled h.0).0 h.2)),
      λ reset.
          let told = handled_told r set x letters some reset.0 in
          common.1 (reset.0, number_set resets count reset.0 (subst (λ (xs : List ℕ). Contains xs reset.0) listed reset.1), (handled reset.0).1 (told.1 reset.2)),
    )

pub never_reset : (r : CompiledProperty) (resets count : ℕ) → r.definition.resets ≡ numbers_of resets count → resets ≡ 0 → (x : List ℕ) → Resets r.definition x → ⊥
never_reset r resets count listed none x reset =
    no_bit resets reset.0 none (number_set resets count reset.0 (subst (λ (xs : List ℕ). Contains xs reset.0) listed reset.1))
