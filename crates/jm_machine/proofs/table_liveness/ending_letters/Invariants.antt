use Rattle.std.proofs.Common.{ℕ}
use Rattle.std.specs.Prelude.{IsBitSet}
use Rattle.jm_machine.specs.Liveness.{IsEndingLetter}
use Rattle.jm_machine.proofs.table_liveness.ending_letters.Given as goal

abbrev pub invariant-loop-letter : goal.invariant-loop-letter
invariant-loop-letter l = (e : ℕ) → IsBitSet l.ending e → IsEndingLetter l.table l.hits l.goal l.needs l.state e
