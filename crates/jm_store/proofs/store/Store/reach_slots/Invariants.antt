use Rattle.std.proofs.Common.{◌++◌, ◌+◌, ◌≤◌, ℕ, take, List}
use Rattle.jm_store.specs.Moves.{AreGiven, IsReadAt}
use Rattle.jm_store.proofs.store.Store.reach_slots.Given as goal

abbrev pub invariant-loop-slot : goal.invariant-loop-slot
invariant-loop-slot g l =
    let R = IsReadAt (g.M.Monitor.meaning (g.M.Monitor.definition l.event.rules.now)) (g.M.Monitor.StandsFor l.event.rules.now) l.event.letter.0 l.event.binding.now l.event.objects.now
    l.event.marks.now.list l.self.monitors in
    record {
      moves : (before : List ℕ) → AreGiven R before l.initial.moves.items → AreGiven R (before ++ take l.slot-index l.slots) l.moves.items;
      steps : l.steps ≤ l.initial.steps + l.slot-index;
    }
