use Rattle.std.proofs.Common.{◌+◌, ◌≤◌, take, length}
use Rattle.std.specs.Option.{option_to_list}
use Rattle.jm_store.specs.Moves.{is_marked, AreGiven, IsReadAt, visited, asks_by}
use Rattle.jm_store.proofs.store.Store.find_only.Given as goal

abbrev pub invariant-loop-domain : goal.invariant-loop-domain
invariant-loop-domain g l =
    let R = IsReadAt (g.M.Monitor.meaning (g.M.Monitor.definition l.event.rules.now)) (g.M.Monitor.StandsFor l.event.rules.now) l.event.letter.0 l.event.binding.now l.event.objects.now
    l.event.marks.now.list l.self.monitors in
    let slots = visited (asks_by (is_marked l.event.status) l.self.ending l.event.letter.0 l.event.binding.now) l.event.binding.now l.self.index.list (take l.domain-index l.domain-items) in
    record { read : AreGiven R slots (option_to_list l.only); steps : l.steps ≤ l.initial.steps + length slots }
