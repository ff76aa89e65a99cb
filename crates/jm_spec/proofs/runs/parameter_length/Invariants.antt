use Rattle.std.proofs.Common.{◌≡◌, drop}
use Rattle.jm_spec.specs.Runs.{plus, parameter_rest, parameter_length}
use Rattle.jm_spec.proofs.runs.parameter_length.Given as goal

abbrev pub invariant-loop-i : goal.invariant-loop-i
invariant-loop-i l = plus l.i (parameter_rest l.bytes l.brackets (drop l.i l.tokens)) ≡ parameter_length l.bytes l.tokens
