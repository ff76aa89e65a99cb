use Rattle.std.proofs.Common.{◌≡◌, drop}
use Rattle.jm_spec.specs.Runs.{plus, formula_length}
use Rattle.jm_spec.proofs.runs.formula_length.Given as goal

abbrev pub invariant-loop-i : goal.invariant-loop-i
invariant-loop-i l = plus l.i (formula_length l.bytes (drop l.i l.tokens)) ≡ formula_length l.bytes l.tokens
