use Rattle.std.proofs.Common.{◌≡◌, ◌≤◌, ◌<◌, ℕ, take}
use Rattle.jm_handler.specs.Statements.{depth_of, EndsAt}
use Rattle.jm_handler.proofs.statement.statement_length.Given as goal

abbrev pub invariant-loop-i : goal.invariant-loop-i
invariant-loop-i l = record {
  depth : l.depth ≡ depth_of l.bytes (take l.i l.tokens);
  few : l.depth ≤ l.i;
  first : (k : ℕ) → k < l.i → EndsAt l.bytes l.tokens k → ⊥;
}
