use Rattle.std.proofs.Common.{◌≤◌, ◌-◌, ◌++◌, List, length, drop}
use Rattle.jm_handler.specs.declared.term.Term.{Term}
use Rattle.jm_handler.specs.Blocks.{Says}
use Rattle.jm_handler.proofs.reader.read_handler.Given as goal

abbrev pub invariant-loop-start : goal.invariant-loop-start
invariant-loop-start l = record {
  within : l.start ≤ length l.tokens;
  so_far : (more : List (List Term)) → Says l.bytes l.table.parameters (drop l.start l.tokens) more
      → Says l.bytes l.table.parameters l.tokens (l.handler ++ more);
}

abbrev pub decreases-loop-start : goal.decreases-loop-start
decreases-loop-start l = length l.tokens - l.start
