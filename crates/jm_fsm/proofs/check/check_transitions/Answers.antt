use Rattle.std.proofs.Common.{ℕ, ◌≡◌, ◌+◌, ◌<◌, true, false, Bool, List, ◌∷◌, Option, Some, length, drop, get_or, refl, sym, ap, ◌∙◌}
use Rattle.std.proofs.lemmas.List.{drop_more}
use Rattle.jm_model.specs.declared.fault.SpecFault.{SpecFault}
use Rattle.jm_model.specs.declared.fault.SpecFault.TheVariants.{DuplicateTransition}
use Rattle.jm_text.specs.declared.token.Token.{Token}
use Rattle.jm_events.specs.Names.{with_name}
use Rattle.jm_reading.specs.Names.{is_among}
use Rattle.jm_reading.specs.Tokens.{name_of}
use Rattle.jm_fsm.specs.declared.formula.TransitionText.{TransitionText}
use Rattle.jm_fsm.specs.declared.formula.TransitionText.TheVariants.{On, Fallback}
use Rattle.jm_fsm.specs.Faults.{duplicate_transition_fault}
use Rattle.jm_fsm.proofs.MadeLemmas.{found_among}
use Rattle.jm_fsm.proofs.check.check_transitions.Goals.{in-On+else-is_some+in_ok-add_name-in-On, in-Fallback+else-fallen}
use Rattle.jm_fsm.proofs.check.check_transitions.Goals as goal

module _ (bytes : List ℕ) (events : List (List ℕ)) (fallen : Bool) (ts : List TransitionText) (i : ℕ) (d : TransitionText) (whole : Option SpecFault)
    (lt : i < length ts) (so_far : duplicate_transition_fault bytes events fallen (drop i ts) ≡ whole) where
  here : (t : TransitionText) → get_or ts i d ≡ t → duplicate_transition_fault bytes events fallen (t ∷ drop (i + 1) ts) ≡ whole
  here t read =
      ap (λ (x : TransitionText). duplicate_transition_fault bytes events fallen (x ∷ drop (i + 1) ts)) (sym read)
      ∙ ap (λ (l : List TransitionText). duplicate_transition_fault bytes events fallen l) (sym (drop_more ts i d lt)) ∙ so_far

  -- the event is among those before
  duplicated : (event destination : Token) (name : List ℕ) → get_or ts i d ≡ On event destination → name ≡ name_of bytes event → is_among events name ≡ true → whole ≡ Some (DuplicateTransition event.line)
  duplicated event destination name read named h =
      let k : is_among events (name_of bytes event) ≡ true = ap (is_among events) (sym named) ∙ h in
      let now : duplicate_transition_fault bytes events fallen (On event destination ∷ drop (i + 1) ts) ≡ Some (DuplicateTransition event.line) = rw k refl in
      sym (here (On event destination) read) ∙ now

  -- it is not, and is one more
  listed : (event destination : Token) (name : List ℕ) → get_or ts i d ≡ On event destination → name ≡ name_of bytes event → is_among events name ≡ false → (after : List (List ℕ)) → after ≡ with_name events name → duplicate_transition_fault bytes after fallen (drop (i + 1) ts) ≡ whole
  listed event destination name read named h after is =
      let k : is_among events (name_of bytes event) ≡ false = ap (is_among events) (sym named) ∙ h in
      let step : duplicate_transition_fault bytes events fallen (On event destination ∷ drop (i + 1) ts) ≡ duplicate_transition_fault bytes (with_name events (name_of bytes event)) fallen (drop (i + 1) ts) = rw k refl in
      ap (λ (ns : List (List ℕ)). duplicate_transition_fault bytes ns fallen (drop (i + 1) ts)) (is ∙ ap (with_name events) named) ∙ sym step ∙ here (On event destination) read

  -- the first `default`
  falls : (word destination : Token) → get_or ts i d ≡ Fallback word destination → fallen ≡ false → duplicate_transition_fault bytes events true (drop (i + 1) ts) ≡ whole
  falls word destination read none =
      let step : duplicate_transition_fault bytes events fallen (Fallback word destination ∷ drop (i + 1) ts) ≡ duplicate_transition_fault bytes events true (drop (i + 1) ts) = rw none refl in
      sym step ∙ here (Fallback word destination) read

pub returns-then-is_some : goal.returns-then-is_some
returns-then-is_some c =
    rw c.into.ensures (duplicated c.args.bytes.now c.loop-transition.events c.loop-transition.fallen c.args.transitions.now c.loop-transition.transition-index _ _ c.loop-transition-test.true c.loop-transition.invariant
    c.in-On.event c.in-On.destination c.name_of-name.result.now c.in-On.is c.name_of-name.ensures (found_among c.loop-transition.events c.name_of-name.result.now c.find.result c.is_some.result c.is_some.ensures c.find.ensures.value ∙ c.if-is_some.true))

pub loop-transition-preserved : goal.loop-transition-preserved
loop-transition-preserved c =
    let bytes = c.args.bytes.now in
    let events = c.loop-transition.events in
    let fallen = c.loop-transition.fallen in
    let ts = c.args.transitions.now in
    let i = c.loop-transition.transition-index in
    elim c.match-transition.branch [
      | in-On+else-is_some+in_ok-add_name-in-On w ↦
          rw (w.events-is, w.fallen-is)
          (listed bytes events fallen ts i _ _ c.loop-transition-test.true c.loop-transition.invariant w.in-On.event w.in-On.destination w.name_of-name.result.now w.in-On.is w.name_of-name.ensures
          (found_among events w.name_of-name.result.now w.find.result w.is_some.result w.is_some.ensures w.find.ensures.value ∙ w.if-is_some.false) w.add_name.new.names w.in_ok-add_name-in-On.ensures.ok)
      | in-Fallback+else-fallen w ↦
          rw (w.events-is, w.fallen-is)
          (falls bytes events fallen ts i _ _ c.loop-transition-test.true c.loop-transition.invariant w.in-Fallback.word w.in-Fallback.destination w.in-Fallback.is w.if-fallen.false)
    ]
