use Rattle.std.proofs.Common.{◌≡◌, ◌++◌, drop}
use Rattle.jm_fsm.specs.Faults.{state_names}
use Rattle.jm_fsm.proofs.resolve.state_names.Given as goal

abbrev pub invariant-loop-part : goal.invariant-loop-part
invariant-loop-part l = l.names ++ state_names l.bytes (drop l.part-index l.parts) ≡ state_names l.bytes l.parts
