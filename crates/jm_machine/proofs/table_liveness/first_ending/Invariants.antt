use Rattle.std.proofs.Common.{ℕ}
use Rattle.std.specs.Prelude.{IsBitSet}
use Rattle.jm_machine.specs.Liveness.{IsFirstEnding}
use Rattle.jm_machine.proofs.table_liveness.first_ending.Given as goal

abbrev pub invariant-loop-letter : goal.invariant-loop-letter
invariant-loop-letter l = (e : ℕ) → IsBitSet l.ending e → IsFirstEnding l.table l.goal l.hits l.needs e
