use Rattle.jm_sync.specs.Checks.{sync_of}
use Rattle.jm_sync.specs.Walks.{HasReached}
use Rattle.jm_sync.proofs.ReachLemmas.{lines_left}
use Rattle.jm_sync.proofs.reach.check_reach.Given as goal

abbrev pub invariant-loop-k : goal.invariant-loop-k
invariant-loop-k l = HasReached (sync_of l.scripts) l.fronts.items l.posted

abbrev pub decreases-loop-k : goal.decreases-loop-k
decreases-loop-k l = lines_left (sync_of l.scripts) l.fronts.items
