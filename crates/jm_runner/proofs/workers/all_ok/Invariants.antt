use Rattle.std.specs.Prelude.{◌≡◌, Ok, map}
use Rattle.jm_runner.proofs.workers.all_ok.Given as goal

abbrev pub invariant-loop-one : goal.invariant-loop-one
invariant-loop-one g l = map (λ x. Ok x) l.values.items ≡ l.yielded
