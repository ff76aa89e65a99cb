-- What the rules know of what may still follow, in the words of the meaning.
use Rattle.std.proofs.Common.{◌≡◌, ◌≢◌, ℕ, ◌<◌, ◌⊎◌, inl, inr, Bool, true, false, not, ◌&&◌, List, [], ◌∷◌, ◌++◌, Some, length, refl, sym, ◌∙◌, ap, subst}
use Rattle.std.specs.Prelude.{All, Contains, codes, ◌↔◌, IsTrue, IsBitSet, slice_get, slice_index, slice_index_or}
use Rattle.std.specs.List.{list_any}
use Rattle.std.specs.List.Sorted.{IsStrictlySortedBy}
use Rattle.std.specs.Ordering.{nat_cmp}
use Rattle.std.specs.Str.{bytes_eq}
use Rattle.jm_model.specs.Meanings.{Meaning, IsHit, CanHit, IsCutWord}
use Rattle.jm_model.specs.Numbers.{no_number, at_rest, IsPlainMove, IsAtRest, AreEnds}
use Rattle.jm_semantics.specs.Families.{IsFamily}
use Rattle.jm_events.specs.Names.{number_of}
use Rattle.jm_events.specs.Events.{EventDefinitions}
use Rattle.jm_goal.specs.Goals.{GoalDefinition}
use Rattle.std.proofs.lemmas.Bool.{false≢true}
use Rattle.std.proofs.lemmas.List.Elements.{All-nil}
use Rattle.jm_table.specs.Tables.{Transitions}
use Rattle.jm_coenable.specs.Needs.{AreNeedsOf, IsInFamily, step_of}
use Rattle.jm_earley.specs.Charts.{ChartsDefinition}
use Rattle.jm_earley.specs.DeadSets as charts
use Rattle.jm_machine.specs.declared.formula.Formula.{Formula}
use Rattle.jm_machine.specs.declared.engine.Engine.{Engine}
use Rattle.jm_machine.specs.declared.engine.Engine.TheVariants.{States, Parses}
use Rattle.jm_machine.specs.declared.prepared_engine.PreparedEngine.TheVariants.{Table, Grammar}
use Rattle.jm_machine.specs.declared.place.Place.{Place}
use Rattle.jm_machine.specs.declared.place.Place.TheVariants.{Start, Trap, State, Parse}
use Rattle.jm_machine.specs.Formulas.{category_names}
use Rattle.jm_machine.specs.Engines.{IsPlaceOf, EngineHolds}
use Rattle.jm_machine.specs.Rests.{IsRest}
use Rattle.jm_machine.specs.PropertyMeanings.{PropertyRules, Resets, property_meaning, is_failing_grammar}
use Rattle.jm_machine.specs.CompiledProperties.{CompiledProperty, IsCompiledProperty, IsGoalOf, IsHandledBy, definition_of, may_begin}
use Rattle.jm_machine.specs.Places.{IsPlaceAfter, IsBegun, Stands}
use Rattle.jm_machine.specs.Liveness.{StateFacts, ParseFacts, AreFactsOf, IsEndingLetter, IsPlainState, IsPlainEntry, CanHitFrom, IsLeftOf, CanMatch}
use Rattle.jm_machine.specs.Known.{IsKnown}
use Rattle.jm_machine.proofs.OptionLemmas.{looked_up}
use Rattle.jm_machine.proofs.GoalLemmas.{begins_as_listed, number_in, number_set}
use Rattle.jm_machine.proofs.PlaceLemmas.{state_within, push_word}
use Rattle.jm_machine.proofs.RestLemmas.{letter_there, asked_some, asked_on, left_anew, left_on}
use Rattle.jm_machine.proofs.PropertyLemmas.{handled_told, hit_handled, run_hits, begun_later, created_later}
use Rattle.jm_machine.proofs.CutLemmas.{not_so, cut_words, can_hit_run, trap_quiet, stood_more, stood_first}
use Rattle.jm_machine.proofs.ParseLemmas.{failing_cut, matching_cut}
use Rattle.jm_machine.proofs.FamilyLemmas.{family_is}
use Rattle.jm_machine.proofs.LivenessLemmas.{no_bit_of_zero, mask_at}

-- ---- a table

module _ (masks : List ℕ) (formula : Formula) (handlers : List (List ℕ)) (goal : GoalDefinition) (g : IsGoalOf masks formula handlers goal) where
  abbrev d : PropertyRules
  d = definition_of masks formula handlers goal

  abbrev rules_with : Engine → CompiledProperty
  rules_with engine = record { definition = d; engine = engine }

  abbrev m : Meaning
  m = property_meaning d

  listed : (e : ℕ) → may_begin goal e ↔ ((d.creation ≡ []) ⊎ Contains d.creation e)
  listed e = begins_as_listed goal.creation (length masks) e g.creation

  marked : (k : ℕ) → IsBitSet goal.resets k ↔ Contains d.resets k
  marked k = (λ bit. number_in goal.resets (length handlers) k (g.resets k bit) bit, number_set goal.resets (length handlers) k)

  module _ (t : Transitions) (facts : StateFacts) (set : IsCompiledProperty (rules_with (States t))) (known : IsKnown d goal (Table t facts)) where
    abbrev r : CompiledProperty
    r = rules_with (States t)

    told : AreFactsOf t goal known.events facts
    told = known.told

    not_failing : is_failing_grammar d ≡ false
    not_failing = ap (λ (b : Bool). b && list_any (bytes_eq (codes "fail")) handlers) (sym known.kind)

    there : (s : ℕ) (x : List ℕ) → IsPlaceOf (States t) (State s) x → s < t.states
    there s x place = subst (λ (n : ℕ). n < t.states) (sym place.1) (state_within t x told.table place.0)

    handled_state : (s : ℕ) (x : List ℕ) → IsPlaceOf (States t) (State s) x → (k : ℕ) → IsBitSet (slice_index facts.hits s) k ↔ IsHandledBy r x k
    handled_state s x place k =
        let bit = told.hits s (subst (λ (n : ℕ). s < n) (sym told.count) (there s x place)) x place k in
        let same = looked_up (λ group. EngineHolds (States t) group x) (number_of (category_names formula)) goal.groups handlers k g.groups in
        (λ set. same.0 (bit.0 set), λ held. bit.1 (same.1 held))

    -- a word that leads to a state without handlers is in no handled category
    unhandled : (s : ℕ) (x : List ℕ) → IsPlaceOf (States t) (State s) x → slice_index facts.hits s ≡ 0 → (k : ℕ) → IsHandledBy r x k → ⊥
    unhandled s x place quiet k held = no_bit_of_zero k (subst (λ (n : ℕ). IsBitSet n k) quiet ((handled_state s x place k).1 held))

    -- so it hits none, and doesn't reset the property
    silent : (s : ℕ) (word : List ℕ) → IsBegun r word → Stands r (State s) word → slice_index facts.hits s ≡ 0 → (k : ℕ) → IsHit m word k → ⊥
    silent s word begun stood quiet k hit =
        unhandled s stood.0 stood.2 quiet k ((hit_handled r set word stood.0 stood.2.0 begun stood.1 k).1 hit)

    unreset : (s : ℕ) (x : List ℕ) → IsPlaceOf (States t) (State s) x → x ≢ [] → slice_index facts.hits s ≡ 0 → Resets d x → ⊥
    unreset s x place some quiet reset = unhandled s x place quiet reset.0 ((handled_told r set x place.0 some reset.0).1 reset.2)

    can_run : (place : Place) (w : List ℕ) (dead : ℕ) → IsPlaceAfter r place w → CanHit m w dead 0 ↔ CanHitFrom t goal known.events place dead
    can_run place w dead h = can_hit_run d t goal known.events set known.masks g.groups listed marked place w dead (λ w word. state_within t w told.table word) h

    -- where nothing can be hit from the state that stands for a word, the word is cut
    lost : (s : ℕ) (word : List ℕ) → IsBegun r word → Stands r (State s) word → (CanHitFrom t goal known.events (State s) 0 → ⊥) → CanHit m word 0 0 → ⊥
    lost s word begun stood never can = never ((can_run (State s) word 0 (begun, stood)).0 can)

    table_cut : (place : Place) (dead : ℕ) (can : Bool) → IsTrue can ↔ CanHitFrom t goal known.events place dead → (w : List ℕ) → IsPlaceAfter r place w → IsTrue (not can) ↔ IsCutWord m w dead
    table_cut place dead can says w h =
        let by = can_run place w dead h in
        let cut = cut_words d w dead not_failing in
        let no = not_so can (CanHit m w dead 0) (λ yes. by.1 (says.0 yes), λ hit. says.1 (by.0 hit)) in
        (λ yes. cut.0 (no.0 yes), λ is_cut. no.1 (cut.1 is_cut))

    table_stays : (s e : ℕ) → IsBitSet (slice_index facts.idle s) e → (w : List ℕ) → IsPlaceAfter r (State s) w → IsPlaceAfter r (State s) (w ++ e ∷ [])
    table_stays s e set w h =
        let x = h.1.0 in
        let idle = told.idle s e (there s x h.1.2) set in
        let never = unreset s x h.1.2 (asked_some (Resets d) w x h.1.1).1 idle.quiet in
        (begun_later r w e h.0, (x ++ e ∷ [], asked_on (Resets d) w x e h.1.1 never, push_word t s s e x idle.letter (sym idle.stays) h.1.2))

    table_rests : (s e : ℕ) → IsBitSet (slice_index facts.idle s) e → (w : List ℕ) → IsPlaceAfter r (State s) w → (k : ℕ) → IsHit m (w ++ e ∷ []) k → ⊥
    table_rests s e bit w h k hit =
        let idle = told.idle s e (there s h.1.0 h.1.2) bit in
        let after = table_stays s e bit w h in
        silent s (w ++ e ∷ []) after.0 after.1 idle.quiet k hit

    -- a letter that ends what leads to a state
    ended : (s e : ℕ) (w : List ℕ) → Stands r (State s) w → IsEndingLetter t facts.hits goal facts.needs s e → Stands r (State (step_of t goal s e)) (w ++ e ∷ [])
    ended s e w stood ends = stood_more d t goal known.events set known.masks g.groups listed marked s e w ends.letter stood

    first_ended : (e : ℕ) → IsEndingLetter t facts.hits goal facts.needs 0 e → Stands r (State (step_of t goal 0 e)) (e ∷ [])
    first_ended e ends = stood_first d t goal known.events set known.masks g.groups listed marked e ends.letter

    ended_quiet : (s e : ℕ) (word : List ℕ) → Stands r (State (step_of t goal s e)) word → IsEndingLetter t facts.hits goal facts.needs s e → (k : ℕ) → IsHit m word k → ⊥
    ended_quiet s e word stood ends k hit = silent (step_of t goal s e) word (hit.0, hit.1) stood ends.quiet k hit

    ended_cut : (s e : ℕ) (word : List ℕ) → word ≢ [] → Stands r (State (step_of t goal s e)) word → IsEndingLetter t facts.hits goal facts.needs s e → IsCutWord m word 0
    ended_cut s e word some stood ends =
        (cut_words d word 0 not_failing).0
        (λ can.
        let created = (created_later m word (can.next ∷ can.rest) some).1 can.hit.1 in
        lost (step_of t goal s e) word (some, created) stood (λ alive. ends.ends t goal known.events told.needs alive.1) can)

    first_quiet : (e : ℕ) → IsBitSet facts.first_ending e → (k : ℕ) → IsHit m (e ∷ []) k → ⊥
    first_quiet e bit k hit =
        elim (told.first_ending e bit).1 [
          | inl never ↦ never ((listed e).1 hit.1)
          | inr ends ↦ ended_quiet 0 e (e ∷ []) (first_ended e ends) ends k hit
        ]

    first_cut : (e : ℕ) → IsBitSet facts.first_ending e → IsCutWord m (e ∷ []) 0
    first_cut e bit =
        elim (told.first_ending e bit).1 [
          | inl never ↦ (cut_words d (e ∷ []) 0 not_failing).0 (λ can. never ((listed e).1 can.hit.1))
          | inr ends ↦ ended_cut 0 e (e ∷ []) (letter_there [] e) (first_ended e ends) ends
        ]

    -- ---- what is answered

    pub known_hits : (s : ℕ) (bits : ℕ) → (s < length facts.hits → bits ≡ slice_index facts.hits s) → (word : List ℕ) → IsPlaceOf (States t) (State s) word → (k : ℕ) → IsBitSet bits k ↔ IsHandledBy r word k
    known_hits s bits is word place k =
        let less : s < length facts.hits = subst (λ (n : ℕ). s < n) (sym told.count) (there s word place) in
        subst (λ (n : ℕ). IsBitSet n k ↔ IsHandledBy r word k) (sym (is less)) (handled_state s word place k)

    pub known_state_hits : (s : ℕ) (bits : ℕ) → (s < length facts.hits → bits ≡ slice_index facts.hits s)
        → (w : List ℕ) → IsPlaceAfter r (State s) w → (k : ℕ) → IsBitSet bits k ↔ IsHit m w k
    known_state_hits s bits is w h = run_hits r set (State s) w h.0 h.1 bits (known_hits s bits is)

    pub known_cut : (place : Place) (dead : ℕ) (can : Bool)
        → ((t : Transitions) (g : GoalDefinition) (v : EventDefinitions) → AreNeedsOf t g v facts.needs → IsTrue can ↔ CanHitFrom t g v place dead)
        → (w : List ℕ) → IsPlaceAfter r place w → IsTrue (not can) ↔ IsCutWord m w dead
    known_cut place dead can says w h = table_cut place dead can (says t goal known.events told.needs) w h

    pub known_stays : (s e bits : ℕ) → bits ≡ slice_index facts.idle s → IsBitSet bits e → (w : List ℕ) → IsPlaceAfter r (State s) w → IsPlaceAfter r (State s) (w ++ e ∷ [])
    known_stays s e bits is bit w h = table_stays s e (subst (λ (n : ℕ). IsBitSet n e) is bit) w h

    pub known_rests : (s e bits : ℕ) → bits ≡ slice_index facts.idle s → IsBitSet bits e → (w : List ℕ) → IsPlaceAfter r (State s) w → (k : ℕ) → IsHit m (w ++ e ∷ []) k → ⊥
    known_rests s e bits is bit w h k hit = table_rests s e (subst (λ (n : ℕ). IsBitSet n e) is bit) w h k hit

    ending_at : (s e bits : ℕ) → bits ≡ slice_index facts.ending s → IsBitSet bits e → (w : List ℕ) → IsPlaceAfter r (State s) w → IsEndingLetter t facts.hits goal facts.needs s e
    ending_at s e bits is bit w h =
        told.ending s e (there s h.1.0 h.1.2) (subst (λ (n : ℕ). IsBitSet n e) is bit)

    pub known_quiet : (s e bits : ℕ) → bits ≡ slice_index facts.ending s → IsBitSet bits e → (w : List ℕ) → IsPlaceAfter r (State s) w → (k : ℕ) → IsHit m (w ++ e ∷ []) k → ⊥
    known_quiet s e bits is bit w h k hit =
        let ends = ending_at s e bits is bit w h in
        ended_quiet s e (w ++ e ∷ []) (ended s e w h.1 ends) ends k hit

    pub known_ends : (s e bits : ℕ) → bits ≡ slice_index facts.ending s → IsBitSet bits e → (w : List ℕ) → IsPlaceAfter r (State s) w → IsCutWord m (w ++ e ∷ []) 0
    known_ends s e bits is bit w h =
        let ends = ending_at s e bits is bit w h in
        ended_cut s e (w ++ e ∷ []) (letter_there w e) (ended s e w h.1 ends) ends

    pub known_first_quiet : (e bits : ℕ) → bits ≡ facts.first_ending → IsBitSet bits e → (w : List ℕ) → w ≡ [] → (k : ℕ) → IsHit m (w ++ e ∷ []) k → ⊥
    known_first_quiet e bits is bit w empty k hit =
        first_quiet e (subst (λ (n : ℕ). IsBitSet n e) is bit) k (subst (λ (x : List ℕ). IsHit m (x ++ e ∷ []) k) empty hit)

    pub known_first_ends : (e bits : ℕ) → bits ≡ facts.first_ending → IsBitSet bits e → (w : List ℕ) → w ≡ [] → IsCutWord m (w ++ e ∷ []) 0
    known_first_ends e bits is bit w empty =
        subst (λ (x : List ℕ). IsCutWord m (x ++ e ∷ []) 0) (sym empty) (first_cut e (subst (λ (n : ℕ). IsBitSet n e) is bit))

    -- ---- by the numbers of states

    plain_move : (e s n : ℕ) → IsPlainState t facts.hits goal facts.needs e s n
        → IsPlainMove Place m (IsPlaceAfter r) e (State s) (State n)
    plain_move e s n plain = record {
      leads = λ w h. (
        begun_later r w e h.0,
        subst (λ (next : ℕ). Stands r (State next) (w ++ e ∷ [])) (sym plain.next)
            (stood_more d t goal known.events set known.masks g.groups listed marked s e w plain.letter h.1),
      );
      quiet = λ w h k hit. silent n w h.0 h.1 plain.quiet k hit;
      goes_on = λ w h cut.
          let alive = plain.goes_on t goal known.events told.needs in
          let within = there n h.1.0 h.1.2 in
          let can = (can_run (State n) w 0 h).1 (within, alive) in
          (cut_words d w 0 not_failing).1 cut can;
    }

    entry_at : (e : ℕ) (row : List ℕ) → row ≡ slice_index_or facts.plain e []
        → (s entry : ℕ) → slice_get row s ≡ Some entry → IsPlainEntry t facts.hits goal facts.needs e s entry
    entry_at e row is s entry at =
        told.plain e s entry (subst (λ (xs : List ℕ). slice_get xs s ≡ Some entry) is at)

    pub known_plain : (e : ℕ) (row : List ℕ) → row ≡ slice_index_or facts.plain e []
        → (s n : ℕ) → slice_get row s ≡ Some n → n ≢ no_number → n ≢ at_rest
        → IsPlainMove Place m (IsPlaceAfter r) e (State s) (State n)
    known_plain e row is s n at some moves = plain_move e s n ((entry_at e row is s n at).moves some moves)

    pub known_at_rest : (e : ℕ) (row : List ℕ) → row ≡ slice_index_or facts.plain e []
        → (s : ℕ) → slice_get row s ≡ Some at_rest → IsAtRest Place m (IsPlaceAfter r) e (State s)
    known_at_rest e row is s at =
        let move = plain_move e s s ((entry_at e row is s at_rest at).rests refl) in record {
          stays = move.leads;
          quiet = move.quiet;
          goes_on = move.goes_on;
        }

    pub known_endings : (masks : List ℕ) → masks ≡ facts.ending
        → (s mask : ℕ) → slice_get masks s ≡ Some mask → AreEnds Place m (IsPlaceAfter r) mask (State s)
    known_endings masks is s mask at =
        let here : mask ≡ slice_index facts.ending s =
        mask_at facts.ending s mask (subst (λ (xs : List ℕ). slice_get xs s ≡ Some mask) is at) in record {
          quiet = λ w h e k bit. known_quiet s e mask here bit w h k;
          cut = λ w h e bit. known_ends s e mask here bit w h;
        }

    pub known_family : (e : ℕ) (family : List ℕ) → e < length masks → ((mask : ℕ) → Contains family mask → mask < 256) → IsStrictlySortedBy nat_cmp family
        → ((t : Transitions) (g : GoalDefinition) (v : EventDefinitions) → AreNeedsOf t g v facts.needs → (mask : ℕ) → mask < 256 → Contains family mask ↔ IsInFamily t g v e mask) → IsFamily m e family
    known_family e family less bytes rising exact =
        family_is d t goal known.events set known.masks g.groups listed marked e family (subst (λ (n : ℕ). e < n) (sym set.letters) less) known.few bytes rising (exact t goal known.events told.needs)

  -- ---- the charts of a grammar

  -- no word leads to a state of a table
  pub never_state : (c : ChartsDefinition) (s : ℕ) (w : List ℕ) → IsPlaceAfter (rules_with (Parses c)) (State s) w → ⊥
  never_state c s w h = h.1.2

  module _ (facts : ParseFacts) (c : ChartsDefinition) (set : IsCompiledProperty (rules_with (Parses c))) (known : IsKnown d goal (Grammar c facts)) where
    -- so much is left of a place's word, by what tells whether it reset the property
    left_of_run : (place : Place) (reset : Bool) → ((x : List ℕ) → x ≢ [] → IsPlaceOf (Parses c) place x → IsTrue reset ↔ Resets d x) → (w : List ℕ) → IsPlaceAfter (rules_with (Parses c)) place w
        → (place ≡ Trap → ⊥) → (rest : List ℕ) × IsRest (Resets d) w rest × All (λ e. e < length c.params) rest × IsLeftOf c place reset rest
    left_of_run Start reset says w h run = ([], subst (λ (x : List ℕ). IsRest (Resets d) x []) (sym h) refl, All-nil (λ e. e < length c.params), tt)
    left_of_run Trap reset says w h run = absurd (run refl)
    left_of_run (State s) reset says w h run = absurd h.1.2
    left_of_run (Parse chart) true says w h run =
        let x = h.1.0 in
        let reset = (says x (asked_some (Resets d) w x h.1.1).1 h.1.2).0 refl in
        ([], left_anew (Resets d) w x h.1.1 reset, All-nil (λ e. e < length c.params), refl)
    left_of_run (Parse chart) false says w h run =
        let x = h.1.0 in
        let never = λ (reset : Resets d x). false≢true ((says x (asked_some (Resets d) w x h.1.1).1 h.1.2).1 reset) in
        (x, left_on (Resets d) w x h.1.1 never, h.1.2.0, h.1.2.1)

    pub known_parse_cut : (place : Place) (dead : ℕ) (reset cut : Bool)
        → ((x : List ℕ) → x ≢ [] → IsPlaceOf (Parses c) place x → IsTrue reset ↔ Resets d x)
        → (facts.coarse ≡ true → IsTrue cut ↔ ((e : ℕ) → charts.IsAvailable c.params dead e → ⊥))
        → (facts.coarse ≡ false → (word : List ℕ) → IsLeftOf c place reset word → IsTrue cut ↔ ((goal.groups ≢ []) × CanMatch c goal place word dead → ⊥))
        → (w : List ℕ) → IsPlaceAfter (rules_with (Parses c)) place w → IsTrue cut ↔ IsCutWord m w dead
    known_parse_cut place dead reset cut says failing matching w h = by_case facts.coarse refl
      where
        by_matching : facts.coarse ≡ false → (place : Place) → ((x : List ℕ) → x ≢ [] → IsPlaceOf (Parses c) place x → IsTrue reset ↔ Resets d x)
            → ((word : List ℕ) → IsLeftOf c place reset word → IsTrue cut ↔ ((goal.groups ≢ []) × CanMatch c goal place word dead → ⊥)) → IsPlaceAfter (rules_with (Parses c)) place w → IsTrue cut ↔ IsCutWord m w dead
        by_matching is Trap says told h =
            let meant = (cut_words d w dead (sym known.told.2 ∙ is)).0 (λ can. trap_quiet d w dead h.0 h.1 can) in
            (λ _. meant, λ _. (told [] tt).1 (λ both. both.1))
        by_matching is Start says told h =
            let left = left_of_run Start reset says w h (λ e. absurd cc) in
            let meant = matching_cut d c goal set known.bound (sym known.kind) g.groups listed (sym known.told.2 ∙ is) Start w left.0 dead h left.1 left.2 in
            (λ yes. meant.0 ((told left.0 left.3).0 yes), λ is_cut. (told left.0 left.3).1 (meant.1 is_cut))
        by_matching is (State s) says told h = absurd h.1.2
        by_matching is (Parse chart) says told h =
            let left = left_of_run (Parse chart) reset says w h (λ e. absurd cc) in
            let meant = matching_cut d c goal set known.bound (sym known.kind) g.groups listed (sym known.told.2 ∙ is) (Parse chart) w left.0 dead h left.1 left.2 in
            (λ yes. meant.0 ((told left.0 left.3).0 yes), λ is_cut. (told left.0 left.3).1 (meant.1 is_cut))

        by_case : (b : Bool) → facts.coarse ≡ b → IsTrue cut ↔ IsCutWord m w dead
        by_case true is =
            let says = failing is in
            let meant = failing_cut d c goal set known.bound (sym known.kind) g.groups listed w dead (sym known.told.2 ∙ is) in
            (λ yes. meant.0 (says.0 yes), λ is_cut. says.1 (meant.1 is_cut))
        by_case false is = by_matching is place says (matching is) h
