use Rattle.std.proofs.Common.{ℕ, ◌<◌}
use Rattle.jm_sync.specs.Checks.{sync_of}
use Rattle.jm_sync.specs.Walks.{CanPass}
use Rattle.jm_sync.proofs.reach.movable.Given as goal

abbrev pub invariant-loop-k : goal.invariant-loop-k
invariant-loop-k l = (j : ℕ) → j < l.k → CanPass (sync_of l.scripts) l.fronts l.posted j → ⊥
