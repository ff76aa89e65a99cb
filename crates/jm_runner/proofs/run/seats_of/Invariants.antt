use Rattle.std.specs.Prelude.{◌≡◌, map}
use Rattle.jm_runner.proofs.run.seats_of.Given as goal

abbrev pub invariant-loop-seats : goal.invariant-loop-seats
invariant-loop-seats g l = l.all.items ≡ map (λ h. h.seats) l.yielded
