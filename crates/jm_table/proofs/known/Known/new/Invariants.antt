use Rattle.std.proofs.Common.{◌≡◌, [], length, All}
use Rattle.jm_table.proofs.known.Known.new.Given as goal

abbrev pub invariant-loop-made : goal.invariant-loop-made
invariant-loop-made l = (length l.buckets.items ≡ l._made) × All (λ bucket. bucket.items ≡ []) l.buckets.items
