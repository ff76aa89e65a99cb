use Rattle.jm_turn.specs.Seats.{IsSeatOf}
use Rattle.test_dispatch_storm.proofs.storm.at_work.Given as goal

abbrev pub invariant-loop-turn : goal.invariant-loop-turn
invariant-loop-turn g l = IsSeatOf l.watch l.seat
