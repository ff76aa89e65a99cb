use Rattle.std.proofs.Common.{ℕ, ◌≡◌, ◌<◌, false, Some, slice_get}
use Rattle.jm_ere.specs.Groups.{LeadsToDead}
use Rattle.jm_ere.proofs.compile.next_live.Given as goal

abbrev pub invariant-loop-state : goal.invariant-loop-state
invariant-loop-state l = (k : ℕ) → k < l.state → slice_get l.live k ≡ Some false → LeadsToDead l.table l.live k
