use Rattle.std.proofs.Common.{◌≡◌, drop}
use Rattle.jm_spec.specs.Runs.{plus, member_rest, member_length}
use Rattle.jm_spec.proofs.runs.member_length.Given as goal

abbrev pub invariant-loop-i : goal.invariant-loop-i
invariant-loop-i l = plus l.i (member_rest l.bytes l.brackets (drop l.i l.tokens)) ≡ member_length l.bytes l.tokens
