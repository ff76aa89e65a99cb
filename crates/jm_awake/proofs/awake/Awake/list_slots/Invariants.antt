use Rattle.std.proofs.Common.{take}
use Rattle.jm_awake.specs.Steps.{AreListedIn}
use Rattle.jm_awake.proofs.awake.Awake.list_slots.Given as goal

abbrev pub invariant-loop-slot : goal.invariant-loop-slot
invariant-loop-slot l = AreListedIn l.letter (take l.slot-index l.slots) l.entries.items l.fn.self l.self
