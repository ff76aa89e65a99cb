use Rattle.std.proofs.Common.{◌≡◌, ◌≤◌, ◌+◌, drop}
use Rattle.jm_grammar.specs.Faults.{production_count}
use Rattle.jm_grammar.proofs.check.check_productions.Given as goal

abbrev pub invariant-loop-part : goal.invariant-loop-part
invariant-loop-part l = record {
  few : l.count ≤ 256;
  sum : l.count + production_count (drop l.part-index l.parts) ≡ production_count l.parts;
}
