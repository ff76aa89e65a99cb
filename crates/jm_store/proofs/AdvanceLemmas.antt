-- An event that reaches one monitor alone and makes none.
use Rattle.std.proofs.Common.{◌≡◌, ℕ, ◌+◌, ◌≤◌, ◌⊎◌, inl, inr, Bool, true, false, List, [], ◌∷◌, refl, sym, ap, ◌∙◌, subst, arith}
use Rattle.std.specs.Prelude.{Option, Some, None, Contains, MatchOption, count_by}
use Rattle.std.specs.List.Sorted.{IsPermutation}
use Rattle.std.proofs.lemmas.Bool.{eq-eqb}
use Rattle.std.proofs.lemmas.Option.{none-some}
use Rattle.std.proofs.lemmas.List.Sorted.{IsPermutation-refl}
use Rattle.jm_model.specs.Bindings.{is_below, is_compatible, join, mask_of}
use Rattle.jm_model.specs.Meanings.{Meaning}
use Rattle.jm_model.specs.declared.binding.Binding.{Binding}
use Rattle.jm_model.specs.declared.firings.Firing.{Firing}
use Rattle.jm_semantics.specs.Traces.{ParametricEvent}
use Rattle.jm_semantics.proofs.ListLemmas.{Contains-cons_cases, Contains-head}
use Rattle.jm_index.specs.Index.{flag_of}
use Rattle.jm_index.proofs.ReadLemmas.{Contains-none}
use Rattle.jm_marks.specs.Marks.{dead_mask_of}
use Rattle.jm_monitors.specs.declared.stored.Stored.{Stored}
use Rattle.jm_monitors.specs.Steps.{IsBase, IsOverAfter, IsLiveEvent, AreMarksAfter}
use Rattle.jm_store.specs.declared.moves.Move.{Move}
use Rattle.jm_store.specs.Slots.{monitor_at}
use Rattle.jm_store.specs.Moves.{AreMovesOf, IsOutcomeAt, AreEnding, reached_by, has_all, ends_all}
use Rattle.jm_store.specs.Contents.{Contents, stored_of, IsSpared, IsStoreAfter, ArePlacedOf, IsEventDone, IsSlotAdvanced, IsOnlyAbove, IsNoneAbove}
use Rattle.jm_store.proofs.EventLemmas.{advanced_next, moved_above}
use Rattle.jm_store.proofs.MoveLemmas.{join_above, compatible_above}
use Rattle.jm_store.proofs.VisitLemmas.{mask_within, slots_counted}
use Rattle.jm_store.proofs.PlacingLemmas.{placed_already}
use Rattle.jm_store.proofs.ReportLemmas.{report_none}
use Rattle.jm_store.proofs.PlanningLemmas.{apart_moves, leads_moves, carried_out, ended_after, answer_sorted, spared_placed}

pub option_map : {X : Type 0} (o : Option X) (U : Type 0) (P Q : X → Type 0) → ((x : X) → P x → Q x) → MatchOption o U P → MatchOption o U Q
option_map None U P Q f h = h
option_map (Some x) U P Q f h = f x h

-- a mark stays one, and nothing else becomes one
pub still_known : (b : Binding) (marks : List Binding) → Contains marks b → AreMarksAfter b marks marks
still_known b marks known t = ((λ there. inl there), (λ there. elim there [ inl before ↦ before | inr is ↦ subst (λ (x : Binding). Contains marks x) (sym is) known ]))

module _ {S : Type 0} (b : Binding) (old : Contents S) (k : ℕ) (only : IsOnlyAbove b old k) where
  -- the monitor that is reached
  pub reached_one : (base : Stored S) × (monitor_at old.monitors k ≡ Some base)
  reached_one = let (s, at, compatible) = only.visit.each k (Contains-head k []) in (s, at)

  -- it is one of those that are compatible
  pub one_counted : (steps after : ℕ) → after ≤ steps + 1 → after ≤ steps + count_by (λ s. is_compatible s.instance b) (stored_of old)
  one_counted steps after few = omega (arith, few, slots_counted old.monitors (λ s. is_compatible s.instance b) (k ∷ []) only.visit.apart only.visit.each)

module _ (m : Meaning) {S : Type 0} (Stands : S → List ℕ → Type 0) (letter : ℕ) (b : Binding) (dead : List Bool) (old new : Contents S) (k : ℕ) (base : Stored S) (firings : List Firing)
    (only : IsOnlyAbove b old k) (at : monitor_at old.monitors k ≡ Some base) (known : Contains old.marks b) (done : IsSlotAdvanced m Stands letter dead k base old new firings) where
  abbrev move : Move S
  move = record { slot = Some k; monitor = record { instance = base.instance; state = done.state }; stays = done.stays }

  below : is_below b base.instance ≡ true
  below = only.above base at

  compatible : is_compatible base.instance b ≡ true
  compatible = compatible_above b base.instance below

  -- the plan's one move
  outcome : IsOutcomeAt m Stands letter b dead old.marks old.monitors k (Some move)
  outcome = rw at (moved_above m Stands letter b dead old.marks k base base.instance move (sym (join_above b base.instance compatible below)) compatible below
      (advanced_next m Stands letter dead (Some k) base.instance base.state done.state done.stays done.next))

  all : AreMovesOf m Stands letter b dead old.marks (has_all b) old.monitors (move ∷ [])
  all = record { slots = k ∷ []; visit = only.visit; given = (Some move, outcome, ([], refl, refl)) }

  may : (s : Stored S) → Contains (stored_of old) s → IsBase b old.marks s
      → (has_all b (mask_of s.instance) ≡ true) ⊎ ((is_below b s.instance ≡ false) × IsOverAfter m Stands letter s.state (dead_mask_of dead (join s.instance b)))
  may s there is = elim is.1 [ inl above ↦ inl (eq-eqb _ (mask_of b) (mask_within b s.instance above)) | inr fresh ↦ absurd (fresh.0 known) ]

  slotted : (x : Move S) → Contains (move ∷ []) x → x.slot ≡ None → ⊥
  slotted x there none = elim (Contains-cons_cases move [] x there) [ inl same ↦ none-some k (sym none ∙ ap (λ (y : Move S). y.slot) (sym same)) | inr later ↦ absurd (Contains-none x later) ]

  placed : ArePlacedOf old old (move ∷ []) (move ∷ []) (move ∷ [])
  placed = placed_already old (move ∷ []) (apart_moves m Stands letter b dead old.marks (has_all b) old.monitors (move ∷ []) all)
      (leads_moves m Stands letter b dead old.marks (has_all b) old.monitors (move ∷ []) all old.index.list only.paired.paired) only.filled slotted

  ended : AreEnding m Stands new.ending (reached_by (move ∷ []))
  ended s there e ends = elim (Contains-cons_cases move.monitor [] s there) [
    | inl same ↦ subst (λ (x : Stored S). IsOverAfter m Stands e x.state 0) same (done.ended e (subst (λ (x : Stored S). ends_at x e) (sym same) ends))
    | inr later ↦ absurd (Contains-none s later)
  ]
    where
      ends_at : Stored S → ℕ → Type 0
      ends_at x e = ends_all new.ending e (mask_of x.instance) ≡ true

  pub one_spared : ((o : ℕ) → flag_of old.index.dropped o ≡ true → flag_of dead o ≡ true) → IsSpared m Stands old → IsSpared m Stands new
  one_spared within spared =
      rw (done.monitors, done.dropped) (spared_placed m Stands letter b dead (has_all b) old old (move ∷ []) (move ∷ []) (move ∷ []) all (IsPermutation-refl (move ∷ [])) placed spared within)

  -- what the event comes to
  pub one_done : (trace : List ParametricEvent) → IsLiveEvent m dead letter b → ((o : ℕ) → flag_of old.index.dropped o ≡ true → flag_of dead o ≡ true) → IsStoreAfter m Stands trace dead old
      → IsEventDone m Stands trace dead letter b new firings
  one_done trace live within holds =
      let order : IsPermutation (move ∷ []) (move ∷ []) = IsPermutation-refl (move ∷ []) in
      let after = carried_out m Stands letter b dead (has_all b) old old (move ∷ []) (move ∷ []) (move ∷ []) all may order placed only.paired (λ j. refl) refl refl trace holds.monitors live old.marks (still_known b old.marks known) in
      let end = ended_after m Stands letter b dead (has_all b) old old (move ∷ []) (move ∷ []) (move ∷ []) all may order placed only.paired (λ j. refl) refl refl trace holds.monitors live new.ending done.fewer holds.ended ended in
      record {
        answer = answer_sorted m Stands letter b dead (has_all b) old old (move ∷ []) (move ∷ []) (move ∷ []) all may order placed only.paired (λ j. refl) refl refl trace holds.monitors live firings done.report;
        store = record {
          monitors = rw (done.monitors, done.marks) after.0;
          ended = rw done.monitors end;
          spared = one_spared within holds.spared;
        };
        none_cut = rw done.monitors after.1;
      }

-- An event that reaches no monitor and makes none: all is as before.
module _ (m : Meaning) {S : Type 0} (Stands : S → List ℕ → Type 0) (letter : ℕ) (b : Binding) (dead : List Bool) (store : Contents S) (none : IsNoneAbove b store) (known : Contains store.marks b) where
  no_moves : AreMovesOf m Stands letter b dead store.marks (has_all b) store.monitors []
  no_moves = record { slots = []; visit = none.visit; given = refl }

  may_none : (s : Stored S) → Contains (stored_of store) s → IsBase b store.marks s
      → (has_all b (mask_of s.instance) ≡ true) ⊎ ((is_below b s.instance ≡ false) × IsOverAfter m Stands letter s.state (dead_mask_of dead (join s.instance b)))
  may_none s there is = elim is.1 [ inl above ↦ inl (eq-eqb _ (mask_of b) (mask_within b s.instance above)) | inr fresh ↦ absurd (fresh.0 known) ]

  none_placed : ArePlacedOf store store [] [] []
  none_placed = placed_already store [] (apart_moves m Stands letter b dead store.marks (has_all b) store.monitors [] no_moves)
      (leads_moves m Stands letter b dead store.marks (has_all b) store.monitors [] no_moves store.index.list none.paired.paired) none.filled (λ x there. absurd (Contains-none x there))

  none_ended : AreEnding m Stands store.ending (reached_by {S = S} [])
  none_ended s there = absurd (Contains-none s there)

  pub none_done : (trace : List ParametricEvent) → IsLiveEvent m dead letter b → ((o : ℕ) → flag_of store.index.dropped o ≡ true → flag_of dead o ≡ true) → IsStoreAfter m Stands trace dead store
      → IsEventDone m Stands trace dead letter b store []
  none_done trace live within holds =
      let order : IsPermutation {X = Move S} [] [] = IsPermutation-refl [] in
      let after = carried_out m Stands letter b dead (has_all b) store store [] [] [] no_moves may_none order none_placed none.paired (λ j. refl) refl refl trace holds.monitors live store.marks (still_known b store.marks known) in
      let end = ended_after m Stands letter b dead (has_all b) store store [] [] [] no_moves may_none order none_placed none.paired (λ j. refl) refl refl trace holds.monitors live store.ending (λ e d ends. ends) holds.ended none_ended in
      record {
        answer = answer_sorted m Stands letter b dead (has_all b) store store [] [] [] no_moves may_none order none_placed none.paired (λ j. refl) refl refl trace holds.monitors live [] (report_none m Stands []);
        store = record { monitors = after.0; ended = end; spared = holds.spared };
        none_cut = after.1;
      }
