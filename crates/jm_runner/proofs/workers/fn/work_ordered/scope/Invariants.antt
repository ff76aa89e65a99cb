use Rattle.std.proofs.Common.{◌≡◌, ◌++◌, All, map}
use Rattle.jm_runner.specs.Hands.{CanWork}
use Rattle.jm_runner.proofs.workers.fn.work_ordered.scope.Given as goal

abbrev pub invariant-loop-hand : goal.invariant-loop-hand
invariant-loop-hand g l = record {
  promised : map (λ w. w.promise.before.value) l.workers.items ≡ l.yielded;
  all : l.yielded ++ l.hand-iterator.rest.items ≡ l.initial.hand-iterator.rest.items;
  able : All (λ h. CanWork g.M.Monitor.meaning l.watches.now g.J.Naming.scripts h.seats.items h.lines) l.hand-iterator.rest.items;
}
