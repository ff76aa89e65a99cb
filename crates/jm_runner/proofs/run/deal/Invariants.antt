use Rattle.std.proofs.Common.{◌≡◌, ◌++◌, map}
use Rattle.jm_runner.proofs.run.deal.Given as goal

abbrev pub invariant-loop-seats : goal.invariant-loop-seats
invariant-loop-seats g l = record {
  all : l.yielded ++ l.seats-iterator.rest.items ≡ l.initial.seats-iterator.rest.items;
  seats : map (λ h. h.seats) l.hands.items ≡ l.yielded;
  lines : map (λ h. h.lines) l.hands.items ++ l.scripts.rest.items ≡ l.fn.scripts.items;
}
