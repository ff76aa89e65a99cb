use Rattle.std.proofs.Common.{◌≡◌, ◌≤◌, drop}
use Rattle.jm_reading.specs.Nesting.{is_too_deep}
use Rattle.jm_reading.proofs.nesting.check_nesting.Given as goal

abbrev pub invariant-loop-token : goal.invariant-loop-token
invariant-loop-token l = record {
  few : l.depth ≤ 64;
  same : is_too_deep l.bytes l.depth (drop l.token-index l.tokens) ≡ is_too_deep l.bytes 0 l.tokens;
}
