use Rattle.std.proofs.Common.{◌≡◌, ◌+◌, ◌≤◌, take, length}
use Rattle.std.specs.Prelude.{Some}
use Rattle.jm_awake.specs.declared.card.Listed.{Listed}
use Rattle.jm_awake.specs.Awake.{list_at, is_there, slots_there}
use Rattle.jm_store.specs.Moves.{AreGiven, IsReadAt}
use Rattle.jm_store.specs.Listed.{AreListedBut}
use Rattle.jm_store.proofs.store.Store.read_listed.Given as goal

abbrev pub invariant-loop-at : goal.invariant-loop-at
invariant-loop-at g l =
    let m = g.M.Monitor.meaning (g.M.Monitor.definition l.listed.event.rules.now) in
    let Stands = g.M.Monitor.StandsFor l.listed.event.rules.now in
    let R = IsReadAt m Stands l.listed.event.letter.0 l.listed.event.binding.now l.listed.event.objects.now l.listed.event.marks.now.list l.self.monitors in
    let slots = slots_there l.initial.awake.cards (take l.at (list_at l.initial.awake l.listed.place).entries) in
    record {
      moves : AreGiven R slots l.moves.items;
      listed : AreListedBut m Stands l.listed.event.objects.now (Some l.listed.place) l.self.monitors l.awake;
      lists : l.awake.lists ≡ l.initial.awake.lists;
      there : (x : Listed) → is_there l.awake.cards x ≡ is_there l.initial.awake.cards x;
      steps : l.steps ≤ l.initial.steps + length slots;
    }
