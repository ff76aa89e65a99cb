-- The coenable families of the letters of a table.
use Rattle.std.proofs.Common.{◌≡◌, ℕ, ◌<◌, List, [], ◌∷◌, ◌++◌, Option, Some, length, map, get_or, refl, sym, ◌∙◌, subst}
use Rattle.std.specs.Prelude.{All, Contains, IsBitSet, ◌↔◌, ◌⊎◌}
use Rattle.std.specs.List.{AllByRecursion}
use Rattle.std.specs.List.Sorted.{IsStrictlySortedBy}
use Rattle.std.specs.Ordering.{nat_cmp}
use Rattle.std.proofs.lemmas.Option.{unwrap_or-slice_get}
use Rattle.std.proofs.lemmas.List.Elements.{All-get_or}
use Rattle.jm_model.specs.Meanings.{Meaning, IsCreated}
use Rattle.jm_semantics.specs.Families.{IsNeeded, IsFamily}
use Rattle.jm_events.specs.Names.{number_of}
use Rattle.jm_events.specs.Events.{EventDefinition, EventDefinitions}
use Rattle.jm_goal.specs.Goals.{GoalDefinition}
use Rattle.jm_table.specs.Tables.{Transitions}
use Rattle.jm_coenable.specs.Needs as needs
use Rattle.jm_coenable.specs.Needs.{run_from}
use Rattle.jm_coenable.proofs.NeedLemmas.{params_few}
use Rattle.jm_machine.specs.declared.engine.Engine.TheVariants.{States}
use Rattle.jm_machine.specs.Formulas.{category_names}
use Rattle.jm_machine.specs.PropertyMeanings.{PropertyRules, property_meaning}
use Rattle.jm_machine.specs.CompiledProperties.{CompiledProperty, IsCompiledProperty, may_begin}
use Rattle.jm_machine.specs.Places.{IsBegun}
use Rattle.jm_machine.proofs.RestLemmas.{letter_there}
use Rattle.jm_machine.proofs.PropertyLemmas.{created_later}
use Rattle.jm_machine.proofs.CutLemmas.{all_places, all_recursion, Stood, stood_word, needed_from, params_same, back_letters}

-- the letters before the last one
front_letters : (n : ℕ) (w : List ℕ) (e : ℕ) → AllByRecursion (λ x. x < n) (w ++ e ∷ []) → AllByRecursion (λ x. x < n) w
front_letters n [] e h = tt
front_letters n (x ∷ w) e h = (h.0, front_letters n w e h.1)

with_letter : (n : ℕ) (w : List ℕ) (e : ℕ) → AllByRecursion (λ x. x < n) w → e < n → AllByRecursion (λ x. x < n) (w ++ e ∷ [])
with_letter n [] e h less = (less, tt)
with_letter n (x ∷ w) e h less = (h.0, with_letter n w e h.1 less)

module _ (d : PropertyRules) (t : Transitions) (goal : GoalDefinition) (v : EventDefinitions) (set : IsCompiledProperty (record { definition = d; engine = States t }))
    (masks : d.masks ≡ map (λ (e : EventDefinition). e.mask) v.events) (found : map {A = ℕ} {B = Option ℕ} Some goal.groups ≡ map (number_of (category_names d.formula)) d.handlers)
    (firsts : (e : ℕ) → may_begin goal e ↔ ((d.creation ≡ []) ⊎ Contains d.creation e)) (marks : (k : ℕ) → IsBitSet goal.resets k ↔ Contains d.resets k) where
  abbrev rules : CompiledProperty
  rules = record { definition = d; engine = States t }

  abbrev m : Meaning
  m = property_meaning d

  abbrev Stands : ℕ → List ℕ → Type 0
  Stands state w = Stood d t goal v set masks found firsts marks state w

  abbrev There : ℕ → Type 0
  There e = e < t.letters

  -- a word that ends in the letter, and begins as it may, arrives at a state that stands for it
  arrival : (w : List ℕ) (e : ℕ) → AllByRecursion There (w ++ e ∷ []) → IsCreated m (w ++ e ∷ []) → (state : ℕ) × needs.IsArrival t goal state e × Stands state (w ++ e ∷ [])
  arrival [] e word created = (
    run_from t goal 0 (e ∷ []),
    record {
      before = [];
      first = e;
      rest = [];
      ends = refl;
      letters = all_places There (e ∷ []) word;
      begins = (firsts e).1 created;
      leads = refl;
    },
    stood_word d t goal v set masks found firsts marks e [] word,
  )
  arrival (x ∷ w) e word created = (
    run_from t goal 0 (x ∷ (w ++ e ∷ [])),
    record {
      before = x ∷ w;
      first = x;
      rest = w ++ e ∷ [];
      ends = refl;
      letters = all_places There (x ∷ (w ++ e ∷ [])) word;
      begins = (firsts x).1 created;
      leads = refl;
    },
    stood_word d t goal v set masks found firsts marks x (w ++ e ∷ []) word,
  )

  few_params : All (λ mask. mask < 256) d.masks → (e : ℕ) → e < t.letters → needs.params_at v e < 256
  few_params few e less =
      let there : e < length d.masks = subst (λ (n : ℕ). e < n) set.letters less in
      let index : get_or d.masks e 0 ≡ needs.params_at v e = sym (unwrap_or-slice_get d.masks e 0) ∙ params_same d t goal v set masks found firsts marks e in
      subst (λ (n : ℕ). n < 256) index (All-get_or (λ mask. mask < 256) d.masks e 0 there few)

  pub family_told : (e mask : ℕ) → needs.IsInFamily t goal v e mask → (w : List ℕ) × AllByRecursion (λ x. x < m.letters) w × IsNeeded m (w ++ e ∷ []) mask
  family_told e mask h =
      let a = h.1 in
      let letters = all_recursion There (a.first ∷ a.rest) a.letters in
      let begun : IsBegun rules (a.first ∷ a.rest) = ((λ (none : a.first ∷ a.rest ≡ []). absurd cc), (firsts a.first).0 a.begins) in
      let stood = subst (λ (n : ℕ). Stands n (a.first ∷ a.rest)) a.leads (stood_word d t goal v set masks found firsts marks a.first a.rest letters) in
      let need = (needed_from d t goal v set masks found firsts marks (a.first ∷ a.rest) h.0 mask stood begun).1 h.2 in
      (a.before, back_letters d t goal v set masks found firsts marks a.before (front_letters t.letters a.before e (subst (AllByRecursion There) a.ends letters)), subst (λ (w : List ℕ). IsNeeded m w mask) a.ends need)

  pub family_found : (e mask : ℕ) → e < t.letters → (w : List ℕ) → AllByRecursion (λ x. x < m.letters) w → IsNeeded m (w ++ e ∷ []) mask → needs.IsInFamily t goal v e mask
  family_found e mask less w letters need =
      let front : AllByRecursion There w = subst (λ (n : ℕ). AllByRecursion (λ x. x < n) w) (sym set.letters) letters in
      let created : IsCreated m (w ++ e ∷ []) = (created_later m (w ++ e ∷ []) (need.next ∷ need.rest) (letter_there w e)).1 need.hit.1 in
      let a = arrival w e (with_letter t.letters w e front less) created in
      (a.0, a.1, (needed_from d t goal v set masks found firsts marks (w ++ e ∷ []) a.0 mask a.2 (letter_there w e, created)).0 need)

  few_needed : All (λ mask. mask < 256) d.masks → (e mask : ℕ) → needs.IsInFamily t goal v e mask → mask < 256
  few_needed few e mask h =
      let by = h.2.2 in
      subst (λ (n : ℕ). n < 256) (sym by.params) (params_few t v (few_params few) (h.2.0 ∷ h.2.1) by.letters)

  pub family_is : (e : ℕ) (family : List ℕ) → e < t.letters → All (λ mask. mask < 256) d.masks → ((mask : ℕ) → Contains family mask → mask < 256) → IsStrictlySortedBy nat_cmp family
      → ((mask : ℕ) → mask < 256 → Contains family mask ↔ needs.IsInFamily t goal v e mask) → IsFamily m e family
  family_is e family less few bytes rising exact = record {
    rising = rising;
    exact = λ mask. (
      λ held. family_told e mask ((exact mask (bytes mask held)).0 held),
      λ h. let there = family_found e mask less h.0 h.1 h.2 in (exact mask (few_needed few e mask there)).1 there,
    );
  }
