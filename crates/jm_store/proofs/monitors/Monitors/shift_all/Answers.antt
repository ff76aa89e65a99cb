use Rattle.std.proofs.Common.{◌≡◌, List, length, sym, ap, ◌∙◌, subst}
use Rattle.jm_store.specs.declared.monitors.Slot.{Slot}
use Rattle.jm_store.specs.Slots.{SlotList, monitors_of}
use Rattle.jm_store.specs.Walks.{AreAlike, HaveMonitors}
use Rattle.jm_store.proofs.WalkLemmas.{alike_counted, written_back}
use Rattle.jm_store.proofs.monitors.Monitors.shift_all.Goals as goal

pub invariant_of-self : goal.invariant_of-self
invariant_of-self g c =
    let slots : List (Slot g.row.S.Denot) = c.self.inside.slots.items in
    let new : List (Slot g.row.S.Denot) = c.shift_all.new.slots in
    let value = c.as_mut_slice.ensures.value in
    let whole : length slots ≡ c.self.inside.slots.len = sym (ap length value) ∙ c.as_mut_slice.ensures.len in
    let alike : AreAlike slots new = subst (λ (l : List (Slot g.row.S.Denot)). AreAlike l new) value c.shift_all.ensures.alike in
    rw (written_back c.self.inside.slots.len slots new whole alike.size) (c.self.invariant ∙ alike_counted slots new alike)

pub shift_all-requires-clause-present : goal.shift_all-requires-clause-present
shift_all-requires-clause-present g c =
    subst (λ (l : List (Slot g.row.S.Denot)). HaveMonitors c.args.shifts.now (monitors_of l)) (sym c.as_mut_slice.ensures.value)
    (subst (λ (s : SlotList g.row.S.Denot). HaveMonitors c.args.shifts.now (monitors_of s.slots)) (sym c.self.view_is) c.requires.present)
