use Rattle.jm_awake.specs.Steps.{IsFewer}
use Rattle.jm_awake.proofs.awake.Awake.bury.Given as goal

abbrev pub invariant-loop-letter : goal.invariant-loop-letter
invariant-loop-letter l = IsFewer l.fn.self l.self
