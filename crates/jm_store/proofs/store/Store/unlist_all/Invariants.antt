use Rattle.std.proofs.Common.{◌≡◌, List, Bool, Some}
use Rattle.jm_store.specs.Listed.{AreAtRest, AreListed, AreListedBut}
use Rattle.jm_store.proofs.store.Store.unlist_all.Given as goal

abbrev pub invariant-loop-slot : goal.invariant-loop-slot
invariant-loop-slot g l =
    let m = g.M.Monitor.meaning (g.M.Monitor.definition l.call.rules.now) in
    let Stands = g.M.Monitor.StandsFor l.call.rules.now in
    record {
      listed : (dead : List Bool) → AreAtRest m Stands l.call.letter.0 l.call.binding.now dead l.rests l.self.monitors → AreListed m Stands dead l.self.monitors l.initial.awake
          → AreListedBut m Stands dead (Some l.place) l.self.monitors l.awake;
      lists : l.awake.lists ≡ l.initial.awake.lists;
    }
