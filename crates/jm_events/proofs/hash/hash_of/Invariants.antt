use Rattle.std.proofs.Common.{◌≡◌, length}
use Rattle.jm_events.specs.Hash.{hash_from}
use Rattle.jm_events.proofs.hash.hash_of.Given as goal

abbrev pub invariant-loop-rest : goal.invariant-loop-rest
invariant-loop-rest l = hash_from l.hash l.rest ≡ hash_from 0 l.fn.text

abbrev pub decreases-loop-rest : goal.decreases-loop-rest
decreases-loop-rest l = length l.rest
