use Rattle.std.proofs.Common.{◌≡◌, drop}
use Rattle.jm_fsm.specs.Faults.{part_name_fault}
use Rattle.jm_fsm.proofs.check.check_part_names.Given as goal

abbrev pub invariant-loop-part : goal.invariant-loop-part
invariant-loop-part l = part_name_fault l.bytes (drop l.part-index l.parts) ≡ part_name_fault l.bytes l.parts
