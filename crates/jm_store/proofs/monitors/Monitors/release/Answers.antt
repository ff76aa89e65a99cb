use Rattle.std.proofs.Common.{◌<◌, length, arith}
use Rattle.jm_store.specs.declared.monitors.Slot.TheVariants.{Free}
use Rattle.jm_store.proofs.SlotLemmas.{count_after, count_there}
use Rattle.jm_store.proofs.monitors.Monitors.release.Goals as goal

pub overflow_sub-self : goal.overflow_sub-self
overflow_sub-self g c =
    let here = rw c.deref.ensures.value at c.count_at.ensures in
    let there = count_there c.self.inside.slots.items c.args.slot in
    omega (arith, here, there, c.self.invariant)

pub invariant_of-self : goal.invariant_of-self
invariant_of-self g c =
    let here = rw c.deref.ensures.value at c.count_at.ensures in
    let low : c.args.slot < length c.self.inside.slots.items = omega arith in
    let all = count_after c.self.inside.slots.items c.args.slot (Free c.self.inside.free) c.self.inside.taken c.count_at.result low here c.self.invariant in
    omega (arith, all)
