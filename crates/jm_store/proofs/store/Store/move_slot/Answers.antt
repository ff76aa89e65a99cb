use Rattle.std.proofs.Common.{◌≡◌, ℕ, List, refl, sym, ap, ◌∙◌, subst}
use Rattle.std.specs.Prelude.{Bool, Option, Some, None, not, slice_set}
use Rattle.std.proofs.lemmas.Option.{same_Some}
use Rattle.jm_awake.specs.Awake.{Lists}
use Rattle.jm_store.specs.Listed.{AreListed}
use Rattle.jm_store.proofs.ListedLemmas.{listed_put, listed_drop, within as slot_within}
use Rattle.jm_store.specs.declared.monitors.Slot.TheVariants.{Free}
use Rattle.std.proofs.lemmas.Bool.{not-true, not-false, both_ways}
use Rattle.std.proofs.lemmas.List.{map-set}
use Rattle.jm_model.specs.Meanings.{IsCutWord}
use Rattle.jm_monitors.specs.declared.stored.Stored.{Stored}
use Rattle.jm_store.specs.Slots.{monitor_in, monitor_at}
use Rattle.jm_store.specs.Moves.{IsNext}
use Rattle.jm_index.specs.Index.{Pair}
use Rattle.jm_store.specs.Housing.{IsHoused}
use Rattle.jm_store.specs.Contents.{IsFit, IsSlotAdvanced}
use Rattle.jm_store.proofs.EndingLemmas.{ending_one}
use Rattle.jm_store.proofs.FitLemmas.{housed_fits}
use Rattle.jm_store.proofs.KeptLemmas.{kept_changed, kept_dropped}
use Rattle.jm_store.proofs.store.Store.move_slot.Goals as goal
use Rattle.jm_store.proofs.store.Store.move_slot.Goals.{then-stays, else-stays}

pub invariant_of-self : goal.invariant_of-self
invariant_of-self g c = rw c.put.ensures (kept_changed _ _ _ _ _ c.args.slot c.in_ok-base.base.now c.in-Ok.state c.self.invariant c.in_ok-base.ensures)

pub invariant_of-self-else-stays : goal.invariant_of-self-else-stays
invariant_of-self-else-stays g c =
    rw (c.release.ensures, c.remove.ensures.list) (kept_dropped _ _ _ _ _ c.args.slot _ c.in_ok-base.base.now c.self.invariant c.in_ok-base.ensures)

pub returns-clause-stays : goal.returns-clause-stays
returns-clause-stays g c =
    let closed = rw (← c.self.view_is) at c.requires.closed in
    let fits : (dead : List Bool) → IsFit c.args.self.now dead → IsFit c.if-stays.self dead = λ dead fit.
    let was = rw (← c.self.view_is) at fit in
    elim c.if-stays.branch [
      | then-stays w ↦
          rw (w.self-is, w.put.ensures)
          (housed_fits _ _ _ _ _ dead (kept_changed _ _ _ _ _ c.args.slot c.in_ok-base.base.now c.in-Ok.state c.self.invariant c.in_ok-base.ensures).housed was.index was.marks)
      | else-stays w ↦
          rw (w.self-is, w.release.ensures)
          (housed_fits _ _ _ _ _ dead (subst (λ (l : List Pair). IsHoused (slice_set c.self.inside.monitors.slots c.args.slot (Free c.self.inside.monitors.free)) l) (sym w.remove.ensures.list) (kept_dropped _ _ _ _ _ c.args.slot c.self.inside.monitors.free c.in_ok-base.base.now c.self.invariant c.in_ok-base.ensures).housed) (w.remove.ensures.fits dead was.index) was.marks)
    ] in
    elim c.if-stays.branch [
      | then-stays w ↦ record { marks = rw (w.self-is, ← c.self.view_is) refl; closed = rw w.self-is closed; fits = fits }
      | else-stays w ↦ record { marks = rw (w.self-is, ← c.self.view_is) refl; closed = rw w.self-is closed; fits = fits }
    ]

pub returns-clause-done : goal.returns-clause-done
returns-clause-done g c =
    let m = g.M.Monitor.meaning (g.M.Monitor.definition c.args.call.now.rules.now) in
    let Stands = g.M.Monitor.StandsFor c.args.call.now.rules.now in
    let moved : (base : Stored g.row.M-State.Denot) → monitor_at c.args.self.now.monitors c.args.slot ≡ Some base
    → IsSlotAdvanced m Stands c.args.call.now.letter.0 c.args.call.now.objects.now c.args.slot base c.args.self.now c.if-stays.self c.in-Ok-report_one.answer = λ base at.
    let was = rw (← c.self.view_is) at at in
    let mine = c.in_ok-base.base.now in
    let there : Some mine ≡ Some base = sym c.in_ok-base.ensures ∙ was in
    let same : mine ≡ base = cc in
    let next : IsNext m Stands c.args.call.now.letter.0 c.args.call.now.objects.now mine.instance mine.state c.in-Ok.state (not c.cut-stays.result) = record {
      next = c.in-Ok.ensures;
      alive = λ stays w stands gone.
          both_ways c.cut-stays.result (not-true c.cut-stays.result stays)
          ((c.cut-stays.ensures w stands).1 (subst (λ (d : ℕ). IsCutWord m w d) (sym c.dead_mask.ensures) gone));
      cut = λ goes w stands.
          subst (λ (d : ℕ). IsCutWord m w d) c.dead_mask.ensures ((c.cut-stays.ensures w stands).0 (not-false c.cut-stays.result goes));
    } in
    subst (λ (x : Stored g.row.M-State.Denot). IsSlotAdvanced m Stands c.args.call.now.letter.0 c.args.call.now.objects.now c.args.slot x c.args.self.now c.if-stays.self c.in-Ok-report_one.answer) same
    (elim c.if-stays.branch [
      | then-stays w ↦ record {
        state = c.in-Ok.state;
        stays = not c.cut-stays.result;
        next = next;
        report = c.in-Ok-report_one.ensures;
        monitors = rw (w.self-is, ← c.self.view_is, w.if-stays.true, w.put.ensures) (map-set monitor_in _ _ _);
        marks = rw (w.self-is, ← c.self.view_is) refl;
        fewer = rw (w.self-is, ← c.self.view_is) c.end_fewer.ensures.fewer;
        ended = rw w.self-is (ending_one m Stands _ _ _ _ c.mask.ensures.value c.end_fewer.ensures.among c.ending.ensures.quiet c.ending.ensures.cut);
        dropped = rw (w.self-is, ← c.self.view_is) refl;
      }
      | else-stays w ↦ record {
        state = c.in-Ok.state;
        stays = not c.cut-stays.result;
        next = next;
        report = c.in-Ok-report_one.ensures;
        monitors = rw (w.self-is, ← c.self.view_is, w.if-stays.false, w.release.ensures) (map-set monitor_in _ _ _);
        marks = rw (w.self-is, ← c.self.view_is) refl;
        fewer = rw (w.self-is, ← c.self.view_is) c.end_fewer.ensures.fewer;
        ended = rw w.self-is (ending_one m Stands _ _ _ _ c.mask.ensures.value c.end_fewer.ensures.among c.ending.ensures.quiet c.ending.ensures.cut);
        dropped = rw (w.self-is, ← c.self.view_is) w.remove.ensures.dropped;
      }
    ]) in
    record { twice = c.in-Ok-copy.ensures; moved = moved }

pub returns-clause-listed : goal.returns-clause-listed
returns-clause-listed g c = λ listed.
    let m = g.M.Monitor.meaning (g.M.Monitor.definition c.args.call.now.rules.now) in
    let Stands = g.M.Monitor.StandsFor c.args.call.now.rules.now in
    let monitors = c.args.self.now.monitors in
    let dead = c.args.call.now.objects.now in
    let slot = c.args.slot in
    let base = c.in_ok-base.base.now in
    let old = c.args.awake.now in
    let at : monitor_at monitors slot ≡ Some base = rw (← c.self.view_is) c.in_ok-base.ensures in
    let low = slot_within slot base monitors at in
    let s : Stored g.row.M-State.Denot = record { instance = base.instance; state = c.in-Ok.state } in
    elim c.if-stays.branch [
      | then-stays w ↦
          let is : c.if-stays.self.monitors ≡ slice_set monitors slot (Some s) = rw (w.self-is, ← c.self.view_is, w.put.ensures) (map-set monitor_in _ _ _) in
          subst (λ (l : List (Option (Stored g.row.M-State.Denot))). AreListed m Stands dead l c.if-stays.awake) (sym is)
          (subst (λ (a : Lists). AreListed m Stands dead (slice_set monitors slot (Some s)) a) (sym w.awake-is)
          (listed_put m Stands dead monitors old w.wake.new.awake slot s low (λ t there. sym (ap (λ (x : Stored g.row.M-State.Denot). x.instance) (same_Some base t (sym at ∙ there)))) w.wake.ensures.sound w.wake.ensures.still w.wake.ensures.told listed))
      | else-stays w ↦
          let is : c.if-stays.self.monitors ≡ slice_set monitors slot None = rw (w.self-is, ← c.self.view_is, w.release.ensures) (map-set monitor_in _ _ _) in
          subst (λ (l : List (Option (Stored g.row.M-State.Denot))). AreListed m Stands dead l c.if-stays.awake) (sym is)
          (subst (λ (a : Lists). AreListed m Stands dead (slice_set monitors slot None) a) (sym w.awake-is)
          (listed_drop m Stands dead monitors old w.leave.new.self slot low w.leave.ensures.sound w.leave.ensures.still listed))
    ]
