-- When an instance of the rules of a table is cut.
use Rattle.std.proofs.Common.{◌≡◌, ◌≢◌, ℕ, ◌<◌, ◌⊎◌, Bool, true, false, not, List, [], ◌∷◌, ◌++◌, Option, Some, None, map, bit_and, bit_or, refl, sym, ◌∙◌, ap, subst, arith}
use Rattle.std.specs.Prelude.{All, Contains, ◌↔◌, IsTrue, IsBitSet, IsSomeAnd, slice_get, unwrap_or, MatchBool, if◌then◌else◌}
use Rattle.std.specs.List.{AllByRecursion}
use Rattle.std.proofs.lemmas.Bool.{false≢true}
use Rattle.std.proofs.lemmas.Option.{slice_get-map}
use Rattle.std.proofs.lemmas.List.Elements.{All-head, All-tail, All-cons}
use Rattle.std.proofs.lemmas.List.{append-nil, append_assoc}
use Rattle.jm_model.specs.Meanings.{Meaning, IsAvailable, IsCreated, IsHit, CanHit, IsCutWord}
use Rattle.jm_semantics.specs.Families.{params_of, IsNeeded}
use Rattle.jm_events.specs.Names.{number_of}
use Rattle.jm_events.specs.Events.{EventDefinition, EventDefinitions}
use Rattle.jm_goal.specs.Goals.{GoalDefinition}
use Rattle.jm_table.specs.Tables.{Transitions, next_of, state_after_of, IsWord, IsInGroup}
use Rattle.jm_coenable.specs.Needs as needs
use Rattle.jm_coenable.specs.Needs.{is_reset, step_of, run_from}
use Rattle.jm_coenable.proofs.ResetLemmas.{IsResettingAt, reset_tells}
use Rattle.jm_machine.specs.declared.engine.Engine.TheVariants.{States}
use Rattle.jm_machine.specs.declared.place.Place.{Place}
use Rattle.jm_machine.specs.declared.place.Place.TheVariants.{Start, Trap, State, Parse}
use Rattle.jm_machine.specs.Formulas.{category_names}
use Rattle.jm_machine.specs.Engines.{EngineHolds}
use Rattle.jm_machine.specs.PropertyMeanings.{PropertyRules, Resets, property_meaning, is_failing_grammar}
use Rattle.jm_machine.specs.CompiledProperties.{CompiledProperty, IsCompiledProperty, IsHandledBy, may_begin}
use Rattle.jm_machine.specs.Places.{IsPlaceAfter, IsBegun, Stands}
use Rattle.jm_machine.specs.Liveness.{CanHitFrom}
use Rattle.jm_machine.proofs.OptionLemmas.{looked_up}
use Rattle.jm_machine.proofs.GoalLemmas.{one_is_set}
use Rattle.jm_machine.proofs.PlaceLemmas.{push_word, no_letters}
use Rattle.jm_machine.proofs.RestLemmas.{asked_some, asked_anew, asked_on, asked_first}
use Rattle.jm_machine.proofs.PropertyLemmas.{handled_told, hit_handled, created_later}
use Rattle.jm_machine.proofs.NeedLemmas.{can_hit_needed}

-- ---- lists by recursion and by places

pub all_places : {X : Type 0} (P : X → Type 0) (xs : List X) → AllByRecursion P xs → All P xs
all_places P [] h = λ k d less. absurd (omega (arith, less))
all_places P (x ∷ xs) h = All-cons P x xs h.0 (all_places P xs h.1)

pub all_recursion : {X : Type 0} (P : X → Type 0) (xs : List X) → All P xs → AllByRecursion P xs
all_recursion P [] h = tt
all_recursion P (x ∷ xs) h = (All-head P x xs h, all_recursion P xs (All-tail P x xs h))

pub word_there : (w : List ℕ) (e : ℕ) (u : List ℕ) → (w ++ e ∷ u) ≢ []
word_there [] e u = λ (none : e ∷ u ≡ []). absurd cc
word_there (d ∷ w) e u = λ (none : d ∷ (w ++ e ∷ u) ≡ []). absurd cc

-- ---- cut, where it is by words

-- what isn't so, by the test of what is
pub not_so : (b : Bool) (P : Type 0) → IsTrue b ↔ P → IsTrue (not b) ↔ (P → ⊥)
not_so true P h = (λ (no : false ≡ true) p. absurd (false≢true no), λ never. absurd (never (h.0 refl)))
not_so false P h = (λ _ p. false≢true (h.1 p), λ _. refl)

-- a specification whose property isn't a grammar with a handler for `fail` is cut where no word can hit it
pub cut_words : (d : PropertyRules) (w : List ℕ) (dead : ℕ) → is_failing_grammar d ≡ false → (CanHit (property_meaning d) w dead 0 → ⊥) ↔ IsCutWord (property_meaning d) w dead
cut_words d w dead other = (
  λ never k less. subst (λ (b : Bool). MatchBool b ((e : ℕ) → IsAvailable (property_meaning d) dead e → ⊥) (CanHit (property_meaning d) w dead 0 → ⊥)) (sym other) never,
  λ cut can.
      let never = subst (λ (b : Bool). MatchBool b ((e : ℕ) → IsAvailable (property_meaning d) dead e → ⊥) (CanHit (property_meaning d) w dead 0 → ⊥)) other (cut can.handler can.hit.2) in
      never can,
)

-- a word that begins otherwise than words may can't be hit again
pub trap_never : (d : PropertyRules) (w : List ℕ) (mask : ℕ) → w ≢ [] → (IsCreated (property_meaning d) w → ⊥) → IsNeeded (property_meaning d) w mask → ⊥
trap_never d w mask some never need = never ((created_later (property_meaning d) w (need.next ∷ need.rest) some).1 need.hit.1)

pub trap_quiet : (d : PropertyRules) (w : List ℕ) (dead : ℕ) → w ≢ [] → (IsCreated (property_meaning d) w → ⊥) → CanHit (property_meaning d) w dead 0 → ⊥
trap_quiet d w dead some never can =
    let need = (can_hit_needed (property_meaning d) dead w 0 (λ k. refl)).0 can in
    trap_never d w need.0 some never need.1

-- ---- the words of a table

module _ (d : PropertyRules) (t : Transitions) (goal : GoalDefinition) (v : EventDefinitions) (set : IsCompiledProperty (record { definition = d; engine = States t }))
    (masks : d.masks ≡ map (λ (e : EventDefinition). e.mask) v.events) (found : map {A = ℕ} {B = Option ℕ} Some goal.groups ≡ map (number_of (category_names d.formula)) d.handlers)
    (firsts : (e : ℕ) → may_begin goal e ↔ ((d.creation ≡ []) ⊎ Contains d.creation e)) (marks : (k : ℕ) → IsBitSet goal.resets k ↔ Contains d.resets k) where
  abbrev rules : CompiledProperty
  rules = record { definition = d; engine = States t }

  abbrev m : Meaning
  m = property_meaning d

  pub params_same : (e : ℕ) → m.params e ≡ needs.params_at v e
  params_same e = ap (λ (xs : List ℕ). unwrap_or (slice_get xs e) 0) masks ∙ ap (λ (o : Option ℕ). unwrap_or o 0) (slice_get-map (λ (e : EventDefinition). e.mask) v.events e)

  word_params : (u : List ℕ) → params_of m u ≡ needs.params_of v u
  word_params [] = refl
  word_params (e ∷ u) = ap (λ (n : ℕ). bit_or n (params_of m u)) (params_same e) ∙ ap (λ (n : ℕ). bit_or (needs.params_at v e) n) (word_params u)

  -- the group of a handler says whether its category holds of the words of a state
  in_group : (x : List ℕ) (k : ℕ) → IsSomeAnd (slice_get goal.groups k) (λ group. IsInGroup t (state_after_of t x) group) ↔ IsHandledBy rules x k
  in_group x k = looked_up (λ group. EngineHolds (States t) group x) (number_of (category_names d.formula)) goal.groups d.handlers k found

  -- ---- a state tells whether its words reset the property

  pub tells : (x : List ℕ) → x ≢ [] → IsWord t x → (is_reset t goal (state_after_of t x) ≡ true) ↔ Resets d x
  tells x some word = (
    λ test. to ((reset_tells t goal (state_after_of t x)).0 test),
    λ reset. (reset_tells t goal (state_after_of t x)).1 (from reset.0 (slice_get goal.groups reset.0) refl ((marks reset.0).1 reset.1) ((in_group x reset.0).1 ((handled_told rules set x word some reset.0).1 reset.2))),
  )
    where
      to : IsResettingAt t goal (state_after_of t x) → Resets d x
      to at =
          let held = subst (λ (o : Option ℕ). IsSomeAnd o (λ group. IsInGroup t (state_after_of t x) group)) (sym at.there) at.inside in
          (at.handler, (marks at.handler).0 ((one_is_set goal.resets at.handler).0 at.resets), (handled_told rules set x word some at.handler).0 ((in_group x at.handler).0 held))

      from : (k : ℕ) (o : Option ℕ) → slice_get goal.groups k ≡ o → IsBitSet goal.resets k → IsSomeAnd o (λ group. IsInGroup t (state_after_of t x) group) → IsResettingAt t goal (state_after_of t x)
      from k None at bit h = absurd h
      from k (Some group) at bit h = record {
        handler = k;
        group = group;
        there = at;
        resets = (one_is_set goal.resets k).1 bit;
        inside = h;
      }

  -- ---- states stand for words

  abbrev pub Stood : ℕ → List ℕ → Type 0
  Stood s w = Stands rules (State s) w

  pub stood_more : (s e : ℕ) (w : List ℕ) → e < t.letters → Stood s w → Stood (step_of t goal s e) (w ++ e ∷ [])
  stood_more s e w letter h = by_case (is_reset t goal s) refl
    where
      at : is_reset t goal s ≡ is_reset t goal (state_after_of t h.0)
      at = ap (is_reset t goal) h.2.1

      here : (is_reset t goal (state_after_of t h.0) ≡ true) ↔ Resets d h.0
      here = tells h.0 (asked_some (Resets d) w h.0 h.1).1 h.2.0

      by_case : (b : Bool) → is_reset t goal s ≡ b → Stood (step_of t goal s e) (w ++ e ∷ [])
      by_case true starts =
          let reset = here.0 (sym at ∙ starts) in
          let step : step_of t goal s e ≡ next_of t 0 e = ap (λ (b : Bool). next_of t (if b then 0 else s) e) starts in
          (e ∷ [], asked_anew (Resets d) w h.0 e h.1 reset, push_word t 0 (step_of t goal s e) e [] letter step (no_letters t, refl))
      by_case false stays =
          let never : Resets d h.0 → ⊥ = λ reset. false≢true (sym stays ∙ at ∙ here.1 reset) in
          let step : step_of t goal s e ≡ next_of t s e = ap (λ (b : Bool). next_of t (if b then 0 else s) e) stays in
          (h.0 ++ e ∷ [], asked_on (Resets d) w h.0 e h.1 never, push_word t s (step_of t goal s e) e h.0 letter step h.2)

  pub stood_on : (u : List ℕ) (s : ℕ) (w : List ℕ) → AllByRecursion (λ e. e < t.letters) u → Stood s w → Stood (run_from t goal s u) (w ++ u)
  stood_on [] s w there h = subst (Stood s) (sym (append-nil w)) h
  stood_on (e ∷ u) s w there h =
      subst (Stood (run_from t goal (step_of t goal s e) u)) (append_assoc w (e ∷ []) u) (stood_on u (step_of t goal s e) (w ++ e ∷ []) there.1 (stood_more s e w there.0 h))

  -- from the start a letter leads on as it does where nothing was reset
  pub start_step : (e : ℕ) → step_of t goal 0 e ≡ next_of t 0 e
  start_step e = by_case (is_reset t goal 0)
    where
      by_case : (b : Bool) → next_of t (if b then 0 else 0) e ≡ next_of t 0 e
      by_case true = refl
      by_case false = refl

  pub stood_first : (e : ℕ) → e < t.letters → Stood (step_of t goal 0 e) (e ∷ [])
  stood_first e letter = (e ∷ [], asked_first (Resets d) e, push_word t 0 (step_of t goal 0 e) e [] letter (start_step e) (no_letters t, refl))

  -- the state of a word of letters that are there
  pub stood_word : (e : ℕ) (u : List ℕ) → AllByRecursion (λ e. e < t.letters) (e ∷ u) → Stood (run_from t goal 0 (e ∷ u)) (e ∷ u)
  stood_word e u there = stood_on u (step_of t goal 0 e) (e ∷ []) there.1 (stood_first e there.0)

  -- ---- what a state says of its words

  -- a handler is hit where the state is handled
  handled_at : (s : ℕ) (w : List ℕ) → Stood s w → IsBegun rules w → ((k : ℕ) × IsHit m w k) ↔ needs.IsHandled t goal s
  handled_at s w stood begun = (
    λ h. to_state h.0 (slice_get goal.groups h.0) refl ((in_group stood.0 h.0).1 ((hit_handled rules set w stood.0 stood.2.0 begun stood.1 h.0).1 h.1)),
    λ h.
        let here = subst (λ (n : ℕ). IsInGroup t n h.1) stood.2.1 h.3 in
        (h.0, (hit_handled rules set w stood.0 stood.2.0 begun stood.1 h.0).0 ((in_group stood.0 h.0).0 (subst (λ (o : Option ℕ). IsSomeAnd o (λ group. IsInGroup t (state_after_of t stood.0) group)) (sym h.2) here))),
  )
    where
      to_state : (k : ℕ) (o : Option ℕ) → slice_get goal.groups k ≡ o → IsSomeAnd o (λ group. IsInGroup t (state_after_of t stood.0) group) → needs.IsHandled t goal s
      to_state k None at h = absurd h
      to_state k (Some group) at h = (k, group, at, subst (λ (n : ℕ). IsInGroup t n group) (sym stood.2.1) h)

  to_letters : (u : List ℕ) → AllByRecursion (λ e. e < m.letters) u → AllByRecursion (λ e. e < t.letters) u
  to_letters u h = subst (λ (n : ℕ). AllByRecursion (λ e. e < n) u) (sym set.letters) h

  pub back_letters : (u : List ℕ) → AllByRecursion (λ e. e < t.letters) u → AllByRecursion (λ e. e < m.letters) u
  back_letters u h = subst (λ (n : ℕ). AllByRecursion (λ e. e < n) u) set.letters h

  -- after a word that began so
  pub needed_from : (w : List ℕ) (s mask : ℕ) → Stood s w → IsBegun rules w → IsNeeded m w mask ↔ needs.IsNeededFrom t goal v s mask
  needed_from w s mask stood begun = (
    λ need.
        let u = need.next ∷ need.rest in
        let letters = to_letters u need.letters in (
          need.next,
          need.rest,
          record {
            letters = all_places (λ e. e < t.letters) u letters;
            hit = (handled_at (run_from t goal s u) (w ++ u) (stood_on u s w letters stood) (later need.next need.rest)).0 (need.handler, need.hit);
            params = need.params ∙ word_params u;
          },
        ),
    λ h.
        let u = h.0 ∷ h.1 in
        let by = h.2 in
        let letters = all_recursion (λ e. e < t.letters) u by.letters in
        let there = (handled_at (run_from t goal s u) (w ++ u) (stood_on u s w letters stood) (later h.0 h.1)).1 by.hit in
        record {
          next = h.0;
          rest = h.1;
          handler = there.0;
          letters = back_letters u letters;
          hit = there.1;
          params = by.params ∙ sym (word_params u);
        },
  )
    where
      later : (e : ℕ) (u : List ℕ) → IsBegun rules (w ++ e ∷ u)
      later e u = (word_there w e u, (created_later m w (e ∷ u) begun.0).0 begun.1)

  -- after the empty word
  pub needed_start : (mask : ℕ) → IsNeeded m [] mask ↔ needs.IsNeededAtStart t goal v mask
  needed_start mask = (
    λ need.
        let u = need.next ∷ need.rest in
        let letters = to_letters u need.letters in (
          need.next,
          need.rest,
          (firsts need.next).1 need.hit.1,
          record {
            letters = all_places (λ e. e < t.letters) u letters;
            hit = (handled_at (run_from t goal 0 u) u (stood_word need.next need.rest letters) (need.hit.0, need.hit.1)).0 (need.handler, need.hit);
            params = need.params ∙ word_params u;
          },
        ),
    λ h.
        let u = h.0 ∷ h.1 in
        let by = h.3 in
        let letters = all_recursion (λ e. e < t.letters) u by.letters in
        let there = (handled_at (run_from t goal 0 u) u (stood_word h.0 h.1 letters) (word_there [] h.0 h.1, (firsts h.0).0 h.2)).1 by.hit in
        record {
          next = h.0;
          rest = h.1;
          handler = there.0;
          letters = back_letters u letters;
          hit = there.1;
          params = by.params ∙ sym (word_params u);
        },
  )

  alive_same : (P Q : ℕ → Type 0) (dead : ℕ) → ((mask : ℕ) → P mask ↔ Q mask) → ((mask : ℕ) × P mask × (bit_and mask dead ≡ 0)) ↔ needs.IsAlive Q dead
  alive_same P Q dead same = (λ h. (h.0, (same h.0).0 h.1, h.2), λ h. (h.0, (same h.0).1 h.1, h.2))

  -- a place can be hit again where its state, or the start, says so
  pub can_hit_run : (place : Place) (w : List ℕ) (dead : ℕ) → ((w : List ℕ) → IsWord t w → state_after_of t w < t.states) → IsPlaceAfter rules place w → CanHit m w dead 0 ↔ CanHitFrom t goal v place dead
  can_hit_run Start w dead within h =
      subst (λ (x : List ℕ). CanHit m x dead 0 ↔ needs.IsAlive (needs.IsNeededAtStart t goal v) dead) (sym h)
      (let by = can_hit_needed m dead [] 0 (λ k. refl) in
      let same = alive_same (IsNeeded m []) (needs.IsNeededAtStart t goal v) dead needed_start in
      (λ can. same.0 (by.0 can), λ alive. by.1 (same.1 alive)))
  can_hit_run Trap w dead within h = (λ can. trap_quiet d w dead h.0 h.1 can, λ never. absurd never)
  can_hit_run (State s) w dead within h =
      let by = can_hit_needed m dead w 0 (λ k. refl) in
      let same = alive_same (IsNeeded m w) (needs.IsNeededFrom t goal v s) dead (λ mask. needed_from w s mask h.1 h.0) in
      let less : s < t.states = subst (λ (n : ℕ). n < t.states) (sym h.1.2.1) (within h.1.0 h.1.2.0) in
      (λ can. (less, same.0 (by.0 can)), λ alive. by.1 (same.1 alive.1))
  can_hit_run (Parse c) w dead within h = absurd h.1.2
