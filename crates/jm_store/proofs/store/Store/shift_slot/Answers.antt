use Rattle.std.proofs.Common.{◌≡◌, List, refl, sym, ap, ◌∙◌, subst}
use Rattle.std.specs.Prelude.{Option, Some, slice_set}
use Rattle.std.proofs.lemmas.Option.{same_Some}
use Rattle.std.proofs.lemmas.List.{map-set}
use Rattle.jm_monitors.specs.declared.stored.Stored.{Stored}
use Rattle.jm_store.specs.Slots.{monitor_in, monitors_of}
use Rattle.jm_store.specs.Listed.{AreListed}
use Rattle.jm_store.proofs.AloneLemmas.{slot_done, ended_by}
use Rattle.jm_store.proofs.FitLemmas.{housed_fits}
use Rattle.jm_store.proofs.KeptLemmas.{kept_changed}
use Rattle.jm_store.proofs.ListedLemmas.{listed_put, within as slot_within}
use Rattle.jm_store.proofs.store.Store.shift_slot.Goals as goal

pub shift-requires-clause-present : goal.shift-requires-clause-present
shift-requires-clause-present g c =
    let (base, at, plain) = c.requires.plain in
    (base, rw (← c.self.view_is) at at)

pub shift-requires-clause-low : goal.shift-requires-clause-low
shift-requires-clause-low g c = let (base, at, plain) = c.requires.plain in plain.low

pub invariant_of-self : goal.invariant_of-self
invariant_of-self g c =
    let (base, at0, plain) = c.requires.plain in
    let at = rw (← c.self.view_is) at at0 in
    let (state, is, has) = c.shift.ensures base at in
    rw is (kept_changed _ _ _ _ _ c.args.slot base state c.self.invariant at)

pub returns-clause-stays : goal.returns-clause-stays
returns-clause-stays g c =
    let (base, at0, plain) = c.requires.plain in
    let at = rw (← c.self.view_is) at at0 in
    let (state, is, has) = c.shift.ensures base at in
    record {
      marks = rw (← c.self.view_is) refl;
      closed = rw (← c.self.view_is) at c.requires.closed;
      fits = λ dead fit.
          let was = rw (← c.self.view_is) at fit in
          rw is (housed_fits _ _ _ _ _ dead (kept_changed _ _ _ _ _ c.args.slot base state c.self.invariant at).housed was.index was.marks);
    }

pub returns-clause-done : goal.returns-clause-done
returns-clause-done g c =
    let m = g.M.Monitor.meaning (g.M.Monitor.definition c.args.call.now.rules.now) in
    let Stands = g.M.Monitor.StandsFor c.args.call.now.rules.now in
    let (base, at0, plain) = c.requires.plain in
    let at = rw (← c.self.view_is) at at0 in
    let (state, is, has) = c.shift.ensures base at in
    let moves = plain.moves state (has plain.before plain.has) in
    let same : c.in-Some.base.now ≡ base = same_Some _ _ (sym c.in-Some.ensures ∙ at) in
    slot_done m Stands c.args.call.now.letter.0 c.args.call.now.objects.now c.args.slot base state _ _ _ at0 plain.whole moves.leads moves.quiet moves.goes_on
    (rw (← c.self.view_is, is) (map-set monitor_in _ _ _)) (rw (← c.self.view_is) refl) (rw (← c.self.view_is) c.end_fewer.ensures.fewer)
    (ended_by m Stands (g.M.Monitor.HasNumber c.args.call.now.rules.now) _ c.args.number _ _ _ (record { instance = base.instance; state = state }) c.letters_at-letters.ensures c.endings.ensures (has plain.before plain.has) (rw (← same) c.mask.ensures.value) c.end_fewer.ensures.among)
    (rw (← c.self.view_is) refl) c.nothing.ensures.answer c.nothing.ensures.copy

pub returns-clause-listed : goal.returns-clause-listed
returns-clause-listed g c = λ listed.
    let m = g.M.Monitor.meaning (g.M.Monitor.definition c.args.call.now.rules.now) in
    let Stands = g.M.Monitor.StandsFor c.args.call.now.rules.now in
    let dead = c.args.call.now.objects.now in
    let monitors = c.args.self.now.monitors in
    let slot = c.args.slot in
    let (base, at0, plain) = c.requires.plain in
    let at = rw (← c.self.view_is) at at0 in
    let (state, is, has) = c.shift.ensures base at in
    let s : Stored g.row.M-State.Denot = record { instance = base.instance; state = state } in
    let same : c.in-Some.base.now ≡ base = same_Some _ _ (sym c.in-Some.ensures ∙ at) in
    let after : monitors_of c.shift.new.self.slots ≡ slice_set monitors slot (Some s) = rw (← c.self.view_is, is) (map-set monitor_in _ _ _) in
    subst (λ (l : List (Option (Stored g.row.M-State.Denot))). AreListed m Stands dead l c.wake.new.awake) (sym after)
    (listed_put m Stands dead monitors c.args.awake.now c.wake.new.awake slot s (slot_within slot base monitors at0) (λ t there. sym (ap (λ (x : Stored g.row.M-State.Denot). x.instance) (same_Some base t (sym at0 ∙ there)))) (rw same at c.wake.ensures.sound) c.wake.ensures.still (rw same at c.wake.ensures.told) listed)
