use Rattle.std.proofs.Common.{◌≡◌, ℕ, take}
use Rattle.jm_index.specs.Index.{flag_of}
use Rattle.jm_index.specs.Layout.{live_pairs}
use Rattle.jm_index.proofs.index.Index.rebuilt.Given as goal

abbrev pub invariant-loop-entry : goal.invariant-loop-entry
invariant-loop-entry l = record {
  list : l.index.list ≡ live_pairs (take l.entry-index l.entry-items);
  dropped : (o : ℕ) → flag_of l.index.dropped o ≡ flag_of l.fn.self.dropped o;
}
