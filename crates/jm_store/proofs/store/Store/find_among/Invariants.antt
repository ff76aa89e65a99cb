use Rattle.std.proofs.Common.{◌++◌, ◌+◌, ◌≤◌, ℕ, take, List}
use Rattle.std.specs.Option.{option_to_list}
use Rattle.jm_store.specs.Moves.{AreGiven, IsReadAt}
use Rattle.jm_store.proofs.store.Store.find_among.Given as goal

abbrev pub invariant-loop-slot : goal.invariant-loop-slot
invariant-loop-slot g l =
    let R = IsReadAt (g.M.Monitor.meaning (g.M.Monitor.definition l.event.rules.now)) (g.M.Monitor.StandsFor l.event.rules.now) l.event.letter.0 l.event.binding.now l.event.objects.now
    l.event.marks.now.list l.self.monitors in
    record {
      read : (before : List ℕ) → AreGiven R before (option_to_list l.initial.only) → AreGiven R (before ++ take l.slot-index l.slots) (option_to_list l.only);
      steps : l.steps ≤ l.initial.steps + l.slot-index;
    }
