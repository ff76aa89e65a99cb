use Rattle.std.proofs.Common.{◌≡◌, refl, sym, ap, ◌∙◌, subst}
use Rattle.std.specs.Prelude.{Option, Some, None, slice_set}
use Rattle.std.proofs.lemmas.Option.{same_Some}
use Rattle.std.proofs.lemmas.List.{set-get_or}
use Rattle.jm_monitors.specs.declared.stored.Stored.{Stored}
use Rattle.jm_store.specs.Slots.{monitors_of}
use Rattle.jm_store.specs.Moves.{IsEnding}
use Rattle.jm_store.proofs.AloneLemmas.{slot_done}
use Rattle.jm_store.proofs.EndingLemmas.{ending_one}
use Rattle.jm_store.proofs.store.Store.rest_slot.Goals as goal

pub returns-clause-stays : goal.returns-clause-stays
returns-clause-stays g c = record {
  marks = rw (← c.self.view_is) refl;
  closed = rw (← c.self.view_is) at c.requires.closed;
  fits = λ dead fit.
      let was = rw (← c.self.view_is) at fit in
      record { instances = was.instances; marks = was.marks; index = was.index };
}

pub returns-clause-done : goal.returns-clause-done
returns-clause-done g c =
    let m = g.M.Monitor.meaning (g.M.Monitor.definition c.args.call.now.rules.now) in
    let Stands = g.M.Monitor.StandsFor c.args.call.now.rules.now in
    let monitors = monitors_of c.self.inside.monitors.slots in
    let slot = c.args.slot in
    let (base, at0, resting) = c.requires.resting in
    let at = rw (← c.self.view_is) at at0 in
    let same : c.in-Some.base.now ≡ base = same_Some _ _ (sym c.in-Some.ensures ∙ at) in
    let kept : slice_set monitors slot (Some base) ≡ monitors = ap (λ (o : Option (Stored g.row.M-State.Denot)). slice_set monitors slot o) (sym at) ∙ set-get_or monitors slot None in
    let ends : IsEnding m Stands c.end_fewer.new.ending base = subst (λ (x : Stored g.row.M-State.Denot). IsEnding m Stands c.end_fewer.new.ending x) same
    (ending_one m Stands _ _ _ _ c.mask.ensures.value c.end_fewer.ensures.among c.ending-letters.ensures.quiet c.ending-letters.ensures.cut) in
    slot_done m Stands c.args.call.now.letter.0 c.args.call.now.objects.now slot base base.state _ _ _ at0 resting.1 resting.0.stays resting.0.quiet resting.0.goes_on
    (rw (← c.self.view_is) (sym kept)) (rw (← c.self.view_is) refl) (rw (← c.self.view_is) c.end_fewer.ensures.fewer) ends (rw (← c.self.view_is) refl) c.nothing.ensures.answer c.nothing.ensures.copy
