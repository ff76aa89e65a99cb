use Rattle.std.proofs.Common.{◌≡◌, length, refl, sym, ap, ◌∙◌, arith}
use Rattle.std.proofs.lemmas.Grind.{common_steps}
use Rattle.jm_store.specs.declared.monitors.Slot.TheVariants.{Free, Planned}
use Rattle.jm_store.specs.Slots.{monitor_in, slot_at}
use Rattle.jm_store.proofs.SlotLemmas.{stored_in-planned}
use Rattle.jm_store.proofs.monitors.Monitors.reserve.Goals as goal

pub invariant_of-self : goal.invariant_of-self
invariant_of-self g c =
    let free : slot_at c.self.inside.slots.items c.self.inside.free ≡ Free c.in-Some-Free.next = grind (arith, common_steps) in
    c.self.invariant ∙ ap length (sym (stored_in-planned c.self.inside.slots.items c.self.inside.free Planned refl (ap monitor_in free)))

pub returns-in-Some-Free-clause-stored : goal.returns-in-Some-Free-clause-stored
returns-in-Some-Free-clause-stored g c =
    let free : slot_at c.self.inside.slots.items c.self.inside.free ≡ Free c.in-Some-Free.next = grind (arith, common_steps) in
    rw (← c.self.view_is) (stored_in-planned c.self.inside.slots.items c.self.inside.free Planned refl (ap monitor_in free))
