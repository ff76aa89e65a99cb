use Rattle.std.proofs.Common.{◌≡◌, ℕ, List, refl, sym, ap, ◌∙◌, subst, arith}
use Rattle.std.specs.Prelude.{Option}
use Rattle.jm_semantics.specs.Traces.{ParametricEvent}
use Rattle.jm_monitors.proofs.BaseLemmas.{object-among}
use Rattle.jm_monitors.specs.Steps.{AreMarksAfter}
use Rattle.jm_store.specs.declared.store.advance.Done.{Done}
use Rattle.jm_store.specs.Contents.{Contents, stored_of, IsSpared, IsStoreAfter, IsEventDone, IsOnlyAbove, IsNoneAbove, IsAbove}
use Rattle.jm_store.specs.Plans.{IsSlotDone}
use Rattle.jm_store.proofs.AdvanceLemmas.{option_map, reached_one, one_counted, one_spared, one_done, none_done, still_known}
use Rattle.jm_store.proofs.DirectLemmas.{none_map, in_some, either_way}
use Rattle.jm_store.proofs.store.Store.advance_one.Goals as goal
use Rattle.jm_store.proofs.store.Store.advance_one.Goals.{then-is_marked+in-Some-Some, then-is_marked+in-Some-None, then-is_marked+in-None, then-is_marked+in-None-2, else-is_marked}

pub only_slot_above-requires-clause-live : goal.only_slot_above-requires-clause-live
only_slot_above-requires-clause-live g c = λ o binds. c.requires.can.event.live o (object-among _ binds.0 o binds.1)

pub returns-clause-advances : goal.returns-clause-advances
returns-clause-advances g c =
    let m = g.M.Monitor.meaning (g.M.Monitor.definition c.args.call.now.rules.now) in
    let Stands = g.M.Monitor.StandsFor c.args.call.now.rules.now in
    let letter = c.args.call.now.letter.0 in
    let b = c.args.call.now.binding.now in
    let dead = c.args.call.now.objects.now in
    let old = c.args.self.now in
    rw c.give_slots.ensures (elim c.if-is_marked.branch [
      | then-is_marked+in-Some-Some w ↦
          let new = w.advance_slot.new.self in
          let slot = w.in-Some-Some.slot in
          let result = w.advance_slot.result in
          let above : IsAbove b old w.in-Some-Some.field-0 = rw c.take_slots-slots.ensures at w.in-Some-Some.ensures in
          let only : IsOnlyAbove b old slot = subst (λ (o : Option ℕ). IsAbove b old o) w.in-Some-Some.field-0-is above in
          let did = rw (c.take_slots-slots.ensures, w.in-Some-Some.slot-is) at w.advance_slot.ensures in
          let known = c.requires.known.0 (sym c.is_marked.ensures ∙ w.if-is_marked.true) in
          let (base, at) = reached_one b old slot only in
          let Moved : Done → Type 0 = λ (done : Done). IsSlotDone m Stands letter dead slot old new done in
          rw (w.self-is, w.done-is) (record {
            stored = none_map result (new ≡ old) (stored_of new ≡ stored_of old) (λ same. ap (λ (s : Contents g.row.M-State.Denot). stored_of s) same) did.unchanged;
            unmarked = none_map result (new ≡ old) (new.marks ≡ old.marks) (λ same. ap (λ (s : Contents g.row.M-State.Denot). s.marks) same) did.unchanged;
            keeps = none_map result (new ≡ old) ((trace : List ParametricEvent) → IsStoreAfter m Stands trace dead old → IsStoreAfter m Stands trace dead new)
                (λ same trace holds. subst (λ (s : Contents g.row.M-State.Denot). IsStoreAfter m Stands trace dead s) (sym same) holds) did.unchanged;
            fits = did.stays.fits dead c.requires.can.fits;
            spares = either_way result (IsSpared m Stands old → IsSpared m Stands new)
                (none_map result (new ≡ old) (IsSpared m Stands old → IsSpared m Stands new) (λ same spared. subst (λ (s : Contents g.row.M-State.Denot). IsSpared m Stands s) (sym same) spared) did.unchanged)
                (option_map result (Unit {0}) Moved (λ (done : Done). IsSpared m Stands old → IsSpared m Stands new)
                (λ done h. one_spared m Stands letter b dead old new slot base done.answer only at known (h.moved base at) c.requires.can.fits.index.reached) did.done);
            closed = did.stays.closed;
            marks = in_some result (λ (done : Done). AreMarksAfter b old.marks new.marks) (λ done. rw did.stays.marks (still_known b old.marks known));
            twice = option_map result (Unit {0}) Moved (λ (done : Done). done.copy ≡ done.answer) (λ done h. h.twice) did.done;
            works = option_map result (Unit {0}) Moved (λ (done : Done). (trace : List ParametricEvent) → IsStoreAfter m Stands trace dead old → IsEventDone m Stands trace dead letter b new done.answer)
                (λ done h trace holds. one_done m Stands letter b dead old new slot base done.answer only at known (h.moved base at) trace c.requires.can.event c.requires.can.fits.index.reached holds) did.done;
          })
      | then-is_marked+in-Some-None w ↦
          let above : IsAbove b old w.in-Some-None.field-0 = rw c.take_slots-slots.ensures at w.in-Some-None.ensures in
          let none : IsNoneAbove b old = subst (λ (o : Option ℕ). IsAbove b old o) w.in-Some-None.field-0-is above in
          let known = c.requires.known.0 (sym c.is_marked.ensures ∙ w.if-is_marked.true) in
          rw (w.self-is, w.done-is, c.take_slots-slots.ensures) (record {
            stored = tt;
            unmarked = tt;
            keeps = tt;
            fits = c.requires.can.fits;
            spares = λ spared. spared;
            closed = c.requires.can.closed;
            marks = still_known b old.marks known;
            twice = w.nothing.ensures.copy ∙ sym w.nothing.ensures.answer;
            works = λ trace holds. rw w.nothing.ensures.answer (none_done m Stands letter b dead old none known trace c.requires.can.event c.requires.can.fits.index.reached holds);
          })
      | then-is_marked+in-None w ↦ rw (w.self-is, w.done-is, c.take_slots-slots.ensures) (record {
        stored = refl;
        unmarked = refl;
        keeps = λ trace holds. holds;
        fits = c.requires.can.fits;
        spares = λ spared. spared;
        closed = c.requires.can.closed;
        marks = tt;
        twice = tt;
        works = tt;
      })
      | then-is_marked+in-None-2 w ↦ rw (w.self-is, w.done-is) (rw c.take_slots-slots.ensures at w.advance_only.ensures.advances)
      | else-is_marked w ↦ rw (w.self-is, w.done-is) (rw c.take_slots-slots.ensures at w.advance_only-done.ensures.advances)
    ])

pub returns-clause-listed : goal.returns-clause-listed
returns-clause-listed g c =
    rw c.give_slots.ensures (elim c.if-is_marked.branch [
      | then-is_marked+in-Some-Some w ↦ rw (w.self-is, w.awake-is) (rw c.take_slots-slots.ensures at w.advance_slot.ensures.listed)
      | then-is_marked+in-Some-None w ↦ rw (w.self-is, w.awake-is, c.take_slots-slots.ensures) (λ listed. listed)
      | then-is_marked+in-None w ↦ rw (w.self-is, w.awake-is, c.take_slots-slots.ensures) (λ listed. listed)
      | then-is_marked+in-None-2 w ↦ rw (w.self-is, w.awake-is) (rw c.take_slots-slots.ensures at w.advance_only.ensures.listed)
      | else-is_marked w ↦ rw (w.self-is, w.awake-is) (rw c.take_slots-slots.ensures at w.advance_only-done.ensures.listed)
    ])

pub returns-clause-steps : goal.returns-clause-steps
returns-clause-steps g c =
    let b = c.args.call.now.binding.now in
    let old = c.args.self.now in
    elim c.if-is_marked.branch [
      | then-is_marked+in-Some-Some w ↦
          let above : IsAbove b old w.in-Some-Some.field-0 = rw c.take_slots-slots.ensures at w.in-Some-Some.ensures in
          let only : IsOnlyAbove b old w.in-Some-Some.slot = subst (λ (o : Option ℕ). IsAbove b old o) w.in-Some-Some.field-0-is above in
          rw w.steps-is (one_counted b old w.in-Some-Some.slot only c.args.steps.now w.advance_slot.new.steps w.advance_slot.ensures.steps)
      | then-is_marked+in-Some-None w ↦ rw w.steps-is (omega arith)
      | then-is_marked+in-None w ↦ rw w.steps-is (omega arith)
      | then-is_marked+in-None-2 w ↦ rw w.steps-is (rw c.take_slots-slots.ensures at w.advance_only.ensures.steps)
      | else-is_marked w ↦ rw w.steps-is (rw c.take_slots-slots.ensures at w.advance_only-done.ensures.steps)
    ]
