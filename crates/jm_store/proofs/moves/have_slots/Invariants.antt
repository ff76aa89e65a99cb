use Rattle.std.proofs.Common.{take}
use Rattle.jm_store.proofs.RestLemmas.{AllSlotted}
use Rattle.jm_store.proofs.moves.have_slots.Given as goal

abbrev pub invariant-loop-step : goal.invariant-loop-step
invariant-loop-step g l = AllSlotted (take l.step-index l.moves)
