use Rattle.std.proofs.Common.{ℕ, ◌≡◌, length}
use Rattle.std.specs.Prelude.{IsBitSet, slice_index}
use Rattle.jm_machine.specs.Liveness.{IsIdleLetter}
use Rattle.jm_machine.proofs.table_liveness.idle_masks.Given as goal

abbrev pub invariant-loop-state : goal.invariant-loop-state
invariant-loop-state l = record {
  count : length l.masks.items ≡ l.state;
  each : (s e : ℕ) → IsBitSet (slice_index l.masks.items s) e → IsIdleLetter l.table l.hits s e;
}
