use Rattle.std.proofs.Common.{◌≡◌, false, [], drop}
use Rattle.jm_fsm.specs.Faults.{duplicate_transition_fault}
use Rattle.jm_fsm.proofs.check.check_transitions.Given as goal

abbrev pub invariant-loop-transition : goal.invariant-loop-transition
invariant-loop-transition l = duplicate_transition_fault l.bytes l.events l.fallen (drop l.transition-index l.transitions) ≡ duplicate_transition_fault l.bytes [] false l.transitions
