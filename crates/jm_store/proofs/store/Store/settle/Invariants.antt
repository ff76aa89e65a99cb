use Rattle.std.proofs.Common.{Bool, List, Option}
use Rattle.jm_monitors.specs.declared.stored.Stored.{Stored}
use Rattle.jm_store.specs.Listed.{AreListed, AreLeftOf}
use Rattle.jm_store.proofs.SettledLemmas.{blend}
use Rattle.jm_store.proofs.store.Store.settle.Given as goal

abbrev pub invariant-loop-slot : goal.invariant-loop-slot
invariant-loop-slot g l =
    (rules : g.row.M.Denot) (dead : List Bool) (before : List (Option (Stored g.row.M-State.Denot))) → AreLeftOf before l.self.monitors
    → AreListed (g.M.Monitor.meaning (g.M.Monitor.definition rules)) (g.M.Monitor.StandsFor rules) dead before l.initial.awake
    → AreListed (g.M.Monitor.meaning (g.M.Monitor.definition rules)) (g.M.Monitor.StandsFor rules) dead (blend l.self.monitors before l.slot) l.awake
