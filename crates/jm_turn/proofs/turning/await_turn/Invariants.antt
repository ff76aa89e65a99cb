use Rattle.std.proofs.Common.{◌≡◌}
use Rattle.jm_turn.specs.TableSeats.{IsSameSeat}
use Rattle.jm_turn.proofs.turning.await_turn.Given as goal

abbrev pub invariant-loop : goal.invariant-loop
invariant-loop g l = IsSameSeat l.initial.place l.place × (l.place.me ≡ l.initial.place.me)
