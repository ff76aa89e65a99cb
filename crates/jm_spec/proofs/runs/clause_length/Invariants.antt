use Rattle.std.proofs.Common.{◌≡◌, drop}
use Rattle.jm_spec.specs.Runs.{plus, clause_length}
use Rattle.jm_spec.proofs.runs.clause_length.Given as goal

abbrev pub invariant-loop-i : goal.invariant-loop-i
invariant-loop-i l = plus l.i (clause_length l.bytes (drop l.i l.tokens)) ≡ clause_length l.bytes l.tokens
