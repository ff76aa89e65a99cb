use Rattle.std.specs.Prelude.{◌≡◌, Ok, map}
use Rattle.jm_runner.proofs.workers.all_at_first.Given as goal

abbrev pub invariant-loop-one : goal.invariant-loop-one
invariant-loop-one g l = l.slots.items ≡ map (λ x. Ok x) l.yielded
