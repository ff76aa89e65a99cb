use Rattle.std.proofs.Common.{◌≡◌, ◌++◌, take}
use Rattle.std.specs.List.{filter_map}
use Rattle.jm_index.specs.Layout.{slot_at}
use Rattle.jm_index.proofs.entry.add_slots_at.Given as goal

abbrev pub invariant-loop-position : goal.invariant-loop-position
invariant-loop-position l = l.slots.items ≡ l.initial.slots.items ++ filter_map (slot_at l.entries l.domain l.binding) (take l.position-index l.positions)
