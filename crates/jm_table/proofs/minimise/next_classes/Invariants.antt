use Rattle.std.proofs.Common.{ℕ, ◌≡◌, ◌<◌, ◌/◌, ◌%◌, length, get_or}
use Rattle.jm_table.specs.Tables.{next_of}
use Rattle.jm_table.proofs.minimise.next_classes.Given as goal

abbrev pub invariant-loop-place : goal.invariant-loop-place
invariant-loop-place l = record {
  count : length l.next.items ≡ l.place;
  each : (k : ℕ) → k < l.place
      → get_or l.next.items k 0 ≡ get_or l.partition.classes.items (next_of l.table (get_or l.partition.firsts.items (k / l.letters) 0) (k % l.letters)) 0;
}
