use Rattle.std.proofs.Common.{take}
use Rattle.jm_store.specs.Slots.{monitors_of}
use Rattle.jm_store.specs.Walks.{AreShifted, AreAlike}
use Rattle.jm_store.proofs.monitors.shift_all.Given as goal

abbrev pub invariant-loop-shift : goal.invariant-loop-shift
invariant-loop-shift g l = record {
  moved : AreShifted (g.M.Monitor.HasNumber l.rules) (take l.shift-index l.shifts) (monitors_of l.initial.slots) (monitors_of l.slots);
  alike : AreAlike l.initial.slots l.slots;
}
