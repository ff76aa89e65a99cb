use Rattle.std.proofs.Common.{◌<◌, length, arith}
use Rattle.jm_store.specs.declared.monitors.Slot.TheVariants.{Taken}
use Rattle.jm_store.proofs.SlotLemmas.{count_after, count_there, count_less}
use Rattle.jm_store.proofs.monitors.Monitors.put.Goals as goal

pub overflow_sub-self : goal.overflow_sub-self
overflow_sub-self g c =
    let here = rw c.deref.ensures.value at c.count_at.ensures in
    let there = count_there c.self.inside.slots.items c.args.slot in
    omega (arith, here, there, c.self.invariant)

pub overflow_add-self : goal.overflow_add-self
overflow_add-self g c =
    let here = rw c.deref.ensures.value at c.count_at.ensures in
    let there = count_there c.self.inside.slots.items c.args.slot in
    let low : c.args.slot < length c.self.inside.slots.items = omega arith in
    let less = count_less c.self.inside.slots.items c.args.slot low in
    omega (arith, here, there, less, c.self.invariant)

pub invariant_of-self : goal.invariant_of-self
invariant_of-self g c =
    let here = rw c.deref.ensures.value at c.count_at.ensures in
    let low : c.args.slot < length c.self.inside.slots.items = omega arith in
    count_after c.self.inside.slots.items c.args.slot (Taken c.args.monitor) c.self.inside.taken c.count_at.result low here c.self.invariant

pub invariant_of-self-then-slot-len-2 : goal.invariant_of-self-then-slot-len-2
invariant_of-self-then-slot-len-2 g c =
    let here = rw c.deref.ensures.value at c.count_at.ensures in
    let low : c.args.slot < length c.self.inside.slots.items = omega arith in
    count_after c.self.inside.slots.items c.args.slot (Taken c.args.monitor) c.self.inside.taken c.count_at.result low here c.self.invariant
