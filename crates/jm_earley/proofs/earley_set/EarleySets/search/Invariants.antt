use Rattle.std.proofs.Common.{◌≤◌, ◌-◌, length}
use Rattle.jm_earley.proofs.KeptLemmas.{IsBetween}
use Rattle.jm_earley.proofs.earley_set.EarleySets.search.Given as goal

abbrev pub invariant-halves : goal.invariant-halves
invariant-halves l = record { fits : l.high ≤ length l.self; between : IsBetween l.self l.position l.low l.high }

abbrev pub decreases-halves : goal.decreases-halves
decreases-halves l = l.high - l.low
