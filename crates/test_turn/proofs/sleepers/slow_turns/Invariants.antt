use Rattle.jm_turn.specs.Seats.{IsSeatOf}
use Rattle.test_turn.proofs.sleepers.slow_turns.Given as goal

abbrev pub invariant-loop-turn : goal.invariant-loop-turn
invariant-loop-turn g l = IsSeatOf l.lock l.seat
