use Rattle.std.proofs.Common.{◌≡◌, ◌+◌, ◌-◌, length}
use Rattle.std.specs.Prelude.{ℕ, slice_index}
use Rattle.jm_awake.proofs.awake.lengthen.Given as goal

abbrev pub invariant-loop-row : goal.invariant-loop-row
invariant-loop-row l = (p : ℕ) → slice_index l.row.items p ≡ slice_index l.initial.row.items p

abbrev pub decreases-loop-row : goal.decreases-loop-row
decreases-loop-row l = l.path + 1 - length l.row.items
