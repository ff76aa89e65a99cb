use Rattle.std.proofs.Common.{ℕ, ◌<◌}
use Rattle.jm_store.specs.Slots.{monitor_at}
use Rattle.jm_store.specs.Moves.{IsSwept}
use Rattle.jm_store.specs.Contents.{IsCutDown}
use Rattle.jm_store.proofs.store.Store.drop_cut_everywhere.Given as goal

abbrev pub invariant-loop-slot : goal.invariant-loop-slot
invariant-loop-slot g l = record {
  down : IsCutDown (g.M.Monitor.meaning (g.M.Monitor.definition l.rules)) (g.M.Monitor.StandsFor l.rules) l.objects l.initial.self l.self;
  all : (k : ℕ) → k < l.slot → IsSwept (g.M.Monitor.meaning (g.M.Monitor.definition l.rules)) (g.M.Monitor.StandsFor l.rules) l.objects (monitor_at l.initial.self.monitors k) (monitor_at l.self.monitors k);
}
