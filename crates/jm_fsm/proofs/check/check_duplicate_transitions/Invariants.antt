use Rattle.std.proofs.Common.{◌≡◌, drop}
use Rattle.jm_fsm.specs.Faults.{transitions_fault}
use Rattle.jm_fsm.proofs.check.check_duplicate_transitions.Given as goal

abbrev pub invariant-loop-part : goal.invariant-loop-part
invariant-loop-part l = transitions_fault l.bytes (drop l.part-index l.parts) ≡ transitions_fault l.bytes l.parts
