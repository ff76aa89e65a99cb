use Rattle.std.proofs.Common.{◌≡◌, ℕ, ◌≤◌, List, length, take, sym, ap, subst, arith}
use Rattle.std.specs.Int.{bit_at}
use Rattle.jm_awake.specs.declared.card.Listed.{Listed}
use Rattle.jm_awake.specs.Awake.{list_at, slots_there}
use Rattle.jm_store.specs.declared.monitors.Slot.{Slot}
use Rattle.jm_store.specs.Slots.{monitors_of}
use Rattle.jm_store.specs.Moves.{AreSifted, IsReadAt}
use Rattle.jm_store.specs.Contents.{Contents}
use Rattle.jm_store.specs.Listed.{slots_listed}
use Rattle.jm_store.specs.Walks.{AreAliveBut, AreReadable, IsShiftAt}
use Rattle.jm_store.proofs.ListedLemmas.{listed_readable}
use Rattle.jm_store.proofs.store.Store.tell_listed.Goals as goal
use Rattle.jm_store.proofs.store.Store.tell_listed.Goals.{then-asked-eq0+then-asked-eq0-2+in_ok-count, else-asked-eq0+in_ok-count-2}

pub read_entries-requires-clause-asks : goal.read_entries-requires-clause-asks
read_entries-requires-clause-asks g c =
    let event = c.args.listed.now.event in
    record {
      free = subst (λ (n : ℕ). AreAliveBut event.objects.now event.binding.now n) c.if-asked-eq0-2.true c.asked-asked.ensures.free;
      others = λ e bit other. subst (λ (n : ℕ). bit_at n e ≡ 1) c.if-asked-eq0.true (c.asked-asked.ensures.others e bit other);
    }

pub read_entries-requires-clause-each : goal.read_entries-requires-clause-each
read_entries-requires-clause-each g c =
    let S = g.row.M-State.Denot in
    let event = c.args.listed.now.event in
    let m = g.M.Monitor.meaning (g.M.Monitor.definition event.rules.now) in
    let Stands = g.M.Monitor.StandsFor event.rules.now in
    let lists = c.args.awake.now in
    let old = c.args.self.now in
    let b = event.binding.now in
    let e = event.letter.0 in
    let ends = c.ends_above.result in
    let own = listed_readable m Stands event.objects.now old.monitors lists c.args.listed.now.place e b event.marks.now.list old.ending ends c.requires.list c.ends_above.ensures in
    subst (λ (l : List Listed). AreReadable b e c.self.inside.ending ends lists (monitors_of c.lend_all.result.items.now) l) (sym c.entries-entries.ensures)
    (subst (λ (l : List (Slot S)). AreReadable b e c.self.inside.ending ends lists (monitors_of l) (list_at lists c.args.listed.now.place).entries) (sym c.lend_all.ensures)
    (subst (λ (s : Contents S). AreReadable b e s.ending ends lists s.monitors (list_at lists c.args.listed.now.place).entries) (sym c.self.view_is) own))

pub read_entries-requires-else-asked-eq0-clause-each : goal.read_entries-requires-else-asked-eq0-clause-each
read_entries-requires-else-asked-eq0-clause-each g c =
    let S = g.row.M-State.Denot in
    let event = c.args.listed.now.event in
    let m = g.M.Monitor.meaning (g.M.Monitor.definition event.rules.now) in
    let Stands = g.M.Monitor.StandsFor event.rules.now in
    let lists = c.args.awake.now in
    let old = c.args.self.now in
    let b = event.binding.now in
    let e = event.letter.0 in
    let ends = c.ends_above.result in
    let own = listed_readable m Stands event.objects.now old.monitors lists c.args.listed.now.place e b event.marks.now.list old.ending ends c.requires.list c.ends_above.ensures in
    subst (λ (l : List Listed). AreReadable b e c.self.inside.ending ends lists (monitors_of c.lend_all.result.items.now) l) (sym c.entries-entries.ensures)
    (subst (λ (l : List (Slot S)). AreReadable b e c.self.inside.ending ends lists (monitors_of l) (list_at lists c.args.listed.now.place).entries) (sym c.lend_all.ensures)
    (subst (λ (s : Contents S). AreReadable b e s.ending ends lists s.monitors (list_at lists c.args.listed.now.place).entries) (sym c.self.view_is) own))

pub returns-in_default-copy-clause-steps : goal.returns-in_default-copy-clause-steps
returns-in_default-copy-clause-steps g c =
    let size = ap (λ (l : List Listed). length (slots_there c.args.awake.now.cards l)) c.entries-entries.ensures in
    elim c.if-asked-eq0.branch [
      | then-asked-eq0+then-asked-eq0-2+in_ok-count w ↦ omega (arith, size, w.steps-is, w.read_entries.ensures.steps)
      | else-asked-eq0+in_ok-count-2 w ↦ omega (arith, size, w.steps-is, w.read_entries-else-asked-eq0.ensures.steps)
    ]

pub returns-clause-steps : goal.returns-clause-steps
returns-clause-steps g c =
    let size = ap (λ (l : List Listed). length (slots_there c.args.awake.now.cards l)) c.entries-entries.ensures in
    elim c.if-asked-eq0.branch [
      | then-asked-eq0+then-asked-eq0-2+in_ok-count w ↦ omega (arith, size, w.steps-is, w.read_entries.ensures.steps)
      | else-asked-eq0+in_ok-count-2 w ↦ omega (arith, size, w.steps-is, w.read_entries-else-asked-eq0.ensures.steps)
    ]

pub returns-clause-reading : goal.returns-clause-reading
returns-clause-reading g c =
    let S = g.row.M-State.Denot in
    let event = c.args.listed.now.event in
    let m = g.M.Monitor.meaning (g.M.Monitor.definition event.rules.now) in
    let Stands = g.M.Monitor.StandsFor event.rules.now in
    let HasNumber = g.M.Monitor.HasNumber event.rules.now in
    let lists = c.args.awake.now in
    let shifts = c.if-asked-eq0.sifted.shifts.items in
    let moves = c.if-asked-eq0.sifted.moves.items in
    let rests = c.if-asked-eq0.sifted.rests.items in
    let count = c.if-asked-eq0.count in
    let lent = monitors_of c.lend_all.result.items.now in
    let (within, sifted) : (count ≤ length shifts) × AreSifted (IsShiftAt m Stands HasNumber event.letter.0 event.objects.now event.binding.now c.self.inside.ending lists lent)
    (IsReadAt m Stands event.letter.0 event.binding.now event.objects.now event.marks.now.list lent) (slots_there lists.cards c.entries-entries.result.now) (take count shifts) moves rests = elim c.if-asked-eq0.branch [
      | then-asked-eq0+then-asked-eq0-2+in_ok-count w ↦ rw (w.sifted-is, w.count-is) w.in_ok-count.ensures.sifted
      | else-asked-eq0+in_ok-count-2 w ↦ rw (w.sifted-is, w.count-is) w.in_ok-count-2.ensures.sifted
    ] in
    let listed = subst (λ (l : List Listed). AreSifted (IsShiftAt m Stands HasNumber event.letter.0 event.objects.now event.binding.now c.self.inside.ending lists lent)
    (IsReadAt m Stands event.letter.0 event.binding.now event.objects.now event.marks.now.list lent) (slots_there lists.cards l) (take count shifts) moves rests) c.entries-entries.ensures sifted in
    let slots = slots_listed lists c.args.listed.now.place in
    let own = subst (λ (l : List (Slot S)). AreSifted (IsShiftAt m Stands HasNumber event.letter.0 event.objects.now event.binding.now c.self.inside.ending lists (monitors_of l))
    (IsReadAt m Stands event.letter.0 event.binding.now event.objects.now event.marks.now.list (monitors_of l)) slots (take count shifts) moves rests) c.lend_all.ensures listed in
    record {
      within = within;
      sifted = subst (λ (s : Contents S). AreSifted (IsShiftAt m Stands HasNumber event.letter.0 event.objects.now event.binding.now s.ending lists s.monitors)
          (IsReadAt m Stands event.letter.0 event.binding.now event.objects.now event.marks.now.list s.monitors) slots (take count shifts) moves rests) c.self.view_is own;
      report = rw c.as_slice.ensures.value at c.in-Ok.ensures;
      twice = c.in-Ok-copy.ensures;
    }
