use Rattle.test_turn.specs.Runners.{HadTurns}
use Rattle.test_turn.proofs.rounds.turns.Given as goal

abbrev pub invariant-loop-turn : goal.invariant-loop-turn
invariant-loop-turn g l = HadTurns l.fn.seat l.seat l.turn
