use Rattle.std.proofs.Common.{◌≡◌, ◌<◌, sym, ◌∙◌, refl, length}
use Rattle.std.proofs.Math.ListN.{length-set}
use Rattle.std.specs.Prelude.{Some}
use Rattle.jm_monitors.specs.declared.stored.Stored.{Stored}
use Rattle.jm_store.specs.declared.monitors.Slot.TheVariants.{Taken}
use Rattle.jm_store.specs.Slots.{slot_at, monitors_of, monitor_at}
use Rattle.jm_store.proofs.SlotLemmas.{used_within, monitor_used}
use Rattle.jm_store.proofs.WalkLemmas.{alike_set, alike_counted, renumbered, slot_read}
use Rattle.jm_store.proofs.monitors.Monitors.shift.Goals as goal

pub invariant_of-self : goal.invariant_of-self
invariant_of-self g c =
    let slots = c.self.inside.slots.items in
    let slot = c.args.slot in
    let next : Stored g.row.S.Denot = record { instance = c.in-Taken.monitor.instance; state = c.renumber.new.state } in
    let (t, there) = rw (← c.self.view_is) at c.requires.present in
    let low : slot < length slots = used_within slots slot (monitor_used slots slot t there) in
    let read = c.index_mut.result.now in
    let taken : slot_at slots slot ≡ Taken c.in-Taken.monitor = slot_read slots slot read low ∙ sym c.index_mut.ensures.value ∙ c.in-Taken.is in
    c.self.invariant ∙ alike_counted slots _ (alike_set slots slot c.in-Taken.monitor next low taken refl (length-set slots slot (Taken next)))

pub returns : goal.returns
returns g c = λ s at0.
    let slots = c.self.inside.slots.items in
    let slot = c.args.slot in
    let next : Stored g.row.S.Denot = record { instance = c.in-Taken.monitor.instance; state = c.renumber.new.state } in
    let at : monitor_at (monitors_of slots) slot ≡ Some s = rw (← c.self.view_is) at at0 in
    let low : slot < length slots = used_within slots slot (monitor_used slots slot s at) in
    let read = c.index_mut.result.now in
    let taken : slot_at slots slot ≡ Taken c.in-Taken.monitor = slot_read slots slot read low ∙ sym c.index_mut.ensures.value ∙ c.in-Taken.is in
    let (same, now) = renumbered slots slot c.in-Taken.monitor s next taken at in
    rw (← c.self.view_is, ← same) (c.renumber.new.state, refl, c.renumber.ensures)
