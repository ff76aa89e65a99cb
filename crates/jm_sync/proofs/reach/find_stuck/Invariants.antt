use Rattle.std.proofs.Common.{ℕ, ◌<◌}
use Rattle.jm_sync.specs.Checks.{sync_of}
use Rattle.jm_sync.specs.Walks.{IsAtEnd}
use Rattle.jm_sync.proofs.reach.find_stuck.Given as goal

abbrev pub invariant-loop-k : goal.invariant-loop-k
invariant-loop-k l = (j : ℕ) → j < l.k → IsAtEnd (sync_of l.scripts) l.fronts j
