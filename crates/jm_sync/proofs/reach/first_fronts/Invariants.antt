use Rattle.std.proofs.Common.{◌≡◌, replicate}
use Rattle.jm_sync.proofs.reach.first_fronts.Given as goal

abbrev pub invariant-loop-script : goal.invariant-loop-script
invariant-loop-script l = l.fronts.items ≡ replicate l._script 0
