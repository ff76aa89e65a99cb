use Rattle.std.proofs.Common.{ℕ}
use Rattle.std.specs.Prelude.{IsBitSet}
use Rattle.jm_machine.specs.Liveness.{IsIdleLetter}
use Rattle.jm_machine.proofs.table_liveness.idle_letters.Given as goal

abbrev pub invariant-loop-letter : goal.invariant-loop-letter
invariant-loop-letter l = (e : ℕ) → IsBitSet l.idle e → IsIdleLetter l.table l.hits l.state e
