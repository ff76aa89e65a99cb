use Rattle.std.proofs.Common.{◌≤◌, ◌-◌, length, drop}
use Rattle.jm_handler.proofs.TermLemmas.{GoesOn}
use Rattle.jm_handler.proofs.reader.terms_of.Given as goal

abbrev pub invariant-loop-i : goal.invariant-loop-i
invariant-loop-i l = record {
  within : l.i ≤ length l.tokens;
  goes_on : GoesOn l.bytes l.table.parameters l.tokens (drop l.i l.tokens) l.terms;
}

abbrev pub decreases-loop-i : goal.decreases-loop-i
decreases-loop-i l = length l.tokens - l.i
