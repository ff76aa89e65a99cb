use Rattle.std.proofs.Common.{ℕ, ◌<◌}
use Rattle.jm_machine.specs.Liveness.{BeginsWith}
use Rattle.jm_machine.proofs.grammar_liveness.GrammarLiveness.can_begin.Given as goal

abbrev pub invariant-loop-letter : goal.invariant-loop-letter
invariant-loop-letter l = (e : ℕ) → e < l.letter → BeginsWith l.parser.charts.now l.parser.goal.now l.dead e → ⊥
