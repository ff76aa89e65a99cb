use Rattle.std.proofs.Common.{◌≡◌, length}
use Rattle.std.specs.Prelude.{All}
use Rattle.jm_runner.proofs.hearing.parcels.Given as goal

abbrev pub invariant-loop-n : goal.invariant-loop-n
invariant-loop-n g l = record {
  count : length l.parcels.items ≡ l._n;
  named : All (λ p. p ≡ l.name) l.parcels.items;
  same : l.seats.items ≡ l.fn.seats.items;
}
