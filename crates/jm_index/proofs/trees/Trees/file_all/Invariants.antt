use Rattle.std.proofs.Common.{◌≡◌, ℕ, ◌+◌, ◌-◌, ◌<◌, ◌≤◌, Some, false}
use Rattle.std.specs.Prelude.{Contains}
use Rattle.jm_model.specs.Bindings.{object_at}
use Rattle.jm_index.specs.Index.{flag_of}
use Rattle.jm_index.specs.Layout.{posting_at, AreFiled}
use Rattle.jm_index.proofs.trees.Trees.file_all.Given as goal

abbrev pub invariant-loop-bound : goal.invariant-loop-bound
invariant-loop-bound l = record {
  within : l.from ≤ 8;
  filed : AreFiled l.dropped l.position l.fn.self l.self;
  whole : Contains (posting_at l.self l.mask 0) l.position;
  each : (p o : ℕ) → p < l.from → object_at l.binding p ≡ Some o → flag_of l.dropped o ≡ false → Contains (posting_at l.self l.mask (o + 1)) l.position;
}

abbrev pub decreases-loop-bound : goal.decreases-loop-bound
decreases-loop-bound l = 8 - l.from
