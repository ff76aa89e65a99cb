use Rattle.std.proofs.Common.{◌≡◌, ◌+◌, ◌≤◌, take, length}
use Rattle.jm_awake.specs.Awake.{slots_there}
use Rattle.jm_store.specs.Slots.{monitors_of}
use Rattle.jm_store.specs.Moves.{AreSifted, IsReadAt}
use Rattle.jm_store.specs.Walks.{IsShiftAt, AreTurns}
use Rattle.jm_store.proofs.walk.Walk.read_entries.Given as goal

abbrev pub invariant-loop-entry : goal.invariant-loop-entry
invariant-loop-entry g l =
    let event = l.self.event.now in
    let m = g.M.Monitor.meaning (g.M.Monitor.definition event.rules.now) in
    let Stands = g.M.Monitor.StandsFor event.rules.now in
    let HasNumber = g.M.Monitor.HasNumber event.rules.now in
    let slots = slots_there l.self.awake.now.cards (take l.entry-index l.entries) in
    record {
      sifted : AreSifted (IsShiftAt m Stands HasNumber event.letter.0 event.objects.now event.binding.now l.self.ending.now l.self.awake.now (monitors_of l.self.slots.items.now))
          (IsReadAt m Stands event.letter.0 event.binding.now event.objects.now event.marks.now.list (monitors_of l.self.slots.items.now)) slots (take l.count l.shifts) l.sifted.1.1.0.items l.sifted.1.1.1.0.items;
      turns : AreTurns l.self.plain.now l.self.ends l.self.endings.now l.turns;
      few : l.count ≤ l.entry-index;
      room : l.count ≤ length l.shifts;
      size : length l.shifts ≡ length l.initial.shifts;
      steps : l.steps ≤ l.initial.steps + length slots;
    }
