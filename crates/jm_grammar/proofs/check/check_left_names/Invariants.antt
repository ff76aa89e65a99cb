use Rattle.std.proofs.Common.{◌≡◌, drop}
use Rattle.jm_grammar.specs.Faults.{left_name_fault}
use Rattle.jm_grammar.proofs.check.check_left_names.Given as goal

abbrev pub invariant-loop-part : goal.invariant-loop-part
invariant-loop-part l = left_name_fault l.bytes (drop l.part-index l.parts) ≡ left_name_fault l.bytes l.parts
