use Rattle.std.proofs.Common.{◌-◌}
use Rattle.jm_reading.proofs.LoopLemmas.{IsLeft}
use Rattle.jm_reading.proofs.repeat.fold_many.Given as goal

abbrev pub invariant-loop : goal.invariant-loop
invariant-loop g l = IsLeft g.R.Repeat.continues (g.R.Repeat.more l.rule) l.initial.cursor l.initial.whole (l.end - l.counter) l.cursor l.whole
