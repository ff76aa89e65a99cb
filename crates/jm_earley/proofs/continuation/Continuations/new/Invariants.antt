use Rattle.std.proofs.Common.{◌≡◌, length}
use Rattle.jm_earley.proofs.AnswerLemmas.{AreFuturesOf}
use Rattle.jm_earley.proofs.continuation.Continuations.new.Given as goal

abbrev pub invariant-loop-number : goal.invariant-loop-number
invariant-loop-number l = (length l.futures.items ≡ l.number) × AreFuturesOf l.grammar l.sets.sets.items l.items l.earlier l.futures.items l.number
