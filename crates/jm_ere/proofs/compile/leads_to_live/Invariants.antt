use Rattle.std.proofs.Common.{ℕ, ◌≡◌, ◌<◌, false, Some, slice_get}
use Rattle.jm_table.specs.Tables.{next_of}
use Rattle.jm_ere.proofs.compile.leads_to_live.Given as goal

abbrev pub invariant-loop-letter : goal.invariant-loop-letter
invariant-loop-letter l = (k : ℕ) → k < l.letter → slice_get l.live (next_of l.table l.state k) ≡ Some false
