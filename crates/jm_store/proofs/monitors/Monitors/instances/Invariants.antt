use Rattle.std.proofs.Common.{◌≡◌, ◌+◌, length, take, map}
use Rattle.jm_store.specs.Slots.{monitors_of, stored_in}
use Rattle.jm_store.proofs.monitors.Monitors.instances.Given as goal

abbrev pub invariant-loop-slot : goal.invariant-loop-slot
invariant-loop-slot g l = record {
  list : l.list.items ≡ map (λ s. s.instance) (stored_in (monitors_of (take l.slot-index l.slot-items)));
  steps : l.steps ≡ l.initial.steps + length l.list.items;
}
