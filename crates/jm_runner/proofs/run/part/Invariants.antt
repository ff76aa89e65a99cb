use Rattle.std.specs.Prelude.{◌≡◌, map}
use Rattle.jm_runner.proofs.run.part.Given as goal

abbrev pub invariant-loop-watch : goal.invariant-loop-watch
invariant-loop-watch g l = record {
  watches : l.watches.items ≡ map (λ r. r.watch) l.yielded;
  seats : l.seats.items ≡ map (λ r. r.seats) l.yielded;
}
