use Rattle.std.proofs.Common.{◌≡◌, [], drop}
use Rattle.jm_fsm.specs.Faults.{duplicate_state_fault}
use Rattle.jm_fsm.proofs.check.check_duplicate_states.Given as goal

abbrev pub invariant-loop-part : goal.invariant-loop-part
invariant-loop-part l = duplicate_state_fault l.bytes l.names (drop l.part-index l.parts) ≡ duplicate_state_fault l.bytes [] l.parts
