use Rattle.std.proofs.Common.{◌≡◌}
use Rattle.std.specs.Prelude.{map}
use Rattle.jm_top.specs.Runs.{AreWatchesOf}
use Rattle.jm_top.proofs.run.dispatchers.Given as goal

abbrev pub invariant-loop-compiled : goal.invariant-loop-compiled
invariant-loop-compiled l = record {
  titled : l.headers.items ≡ map (λ l. l.header) l.yielded;
  watched : AreWatchesOf l.objects l.seats l.yielded (map (λ r. r.watch) l.watches.items) (map (λ r. r.seats.items) l.watches.items);
}
