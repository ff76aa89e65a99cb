use Rattle.std.proofs.Common.{◌≡◌, ℕ, inl, inr, ◌+◌, ◌/◌, List, [], ◌∷◌, ◌++◌, true, false, take, length, get_or, refl, sym, ap, ◌∙◌, subst, arith, append-nil}
use Rattle.std.specs.Prelude.{None, Some, slice_index_or, ◌==◌}
use Rattle.std.proofs.lemmas.List.{take_all, length-append}
use Rattle.std.proofs.lemmas.List.Elements.{Contains-get_or}
use Rattle.std.proofs.lemmas.Option.{same_Some}
use Rattle.jm_model.specs.Bindings.{is_below, mask_of}
use Rattle.jm_awake.specs.declared.card.Card.{Card}
use Rattle.jm_awake.specs.declared.card.Listed.{Listed}
use Rattle.jm_awake.specs.Awake.{fresh, card_at, slots_there, is_there}
use Rattle.jm_monitors.specs.declared.stored.Stored.{Stored}
use Rattle.jm_store.specs.declared.walk.Shift.{Shift}
use Rattle.jm_store.specs.Moves.{AreSifted, IsReadAt}
use Rattle.jm_store.specs.Walks.{AreAmong, IsShifting, IsShiftAt}
use Rattle.jm_store.specs.Slots.{monitors_of, monitor_at}
use Rattle.jm_store.proofs.ListedLemmas.{slots_at, slots_fewer}
use Rattle.jm_store.proofs.PartedLemmas.{sifted_none, sifted_told, sifted_read, sifted_rest}
use Rattle.jm_store.proofs.WalkLemmas.{there_by, no_turns, shifts_all, written_back}
use Rattle.jm_store.proofs.walk.Walk.read_entries.Goals as goal
use Rattle.jm_store.proofs.walk.Walk.read_entries.Goals.{then-is_there+in-Shifts, then-is_there+in-Rests, then-is_there+in-Nothing+in-Ok, else-is_there}

pub loop-entry-init : goal.loop-entry-init
loop-entry-init g c = record {
  sifted = rw (c.requires.none.0, c.requires.none.1) (sifted_none _ _);
  turns = no_turns c.args.self.now.plain.now c.args.self.now.ends c.args.self.now.endings.now 16;
  few = omega arith;
  room = omega arith;
  size = refl;
  steps = omega arith;
}

pub card_of-card-requires : goal.card_of-card-requires
card_of-card-requires g c =
    let none : Listed = record { slot = 0; age = 0 } in
    let x = get_or c.args.entries.now c.loop-entry.entry-index none in
    let low = (c.requires.each x (Contains-get_or c.args.entries.now c.loop-entry.entry-index none c.loop-entry-test.true)).0 in
    omega (arith, low, c.slot.ensures, ap length c.cards-cards.ensures)

pub monitor-base-requires : goal.monitor-base-requires
monitor-base-requires g c =
    let lists = c.args.self.now.awake.now in
    let none : Listed = record { slot = 0; age = 0 } in
    let x = get_or c.args.entries.now c.loop-entry.entry-index none in
    let (low, read) = c.requires.each x (Contains-get_or c.args.entries.now c.loop-entry.entry-index none c.loop-entry-test.true) in
    let card : c.card_of-card.result.now ≡ card_at lists x.slot = c.card_of-card.ensures ∙ ap (λ (n : ℕ). slice_index_or c.cards-cards.result.now n fresh) c.slot.ensures ∙ ap (λ (l : List Card). slice_index_or l x.slot fresh) c.cards-cards.ensures in
    let age = c.is_there.ensures ∙ ap (λ (y : Card). (y.age / 2 == x.age / 2)) card in
    let (on, (s, at, below, among)) = read (there_by lists.cards x low ∙ sym age ∙ c.if-is_there.true) in
    (s, ap (monitor_at (monitors_of c.args.self.now.slots.items.now)) c.slot-then-is_there.ensures ∙ at)

pub tell-requires-clause-below : goal.tell-requires-clause-below
tell-requires-clause-below g c =
    let walk = c.args.self.now in
    let lists = walk.awake.now in
    let none : Listed = record { slot = 0; age = 0 } in
    let x = get_or c.args.entries.now c.loop-entry.entry-index none in
    let (low, read) = c.requires.each x (Contains-get_or c.args.entries.now c.loop-entry.entry-index none c.loop-entry-test.true) in
    let card : c.card_of-card.result.now ≡ card_at lists x.slot = c.card_of-card.ensures ∙ ap (λ (n : ℕ). slice_index_or c.cards-cards.result.now n fresh) c.slot.ensures ∙ ap (λ (l : List Card). slice_index_or l x.slot fresh) c.cards-cards.ensures in
    let age = c.is_there.ensures ∙ ap (λ (y : Card). (y.age / 2 == x.age / 2)) card in
    let (on, (s, at, below, among)) = read (there_by lists.cards x low ∙ sym age ∙ c.if-is_there.true) in
    let base = c.monitor-base.result.now in
    let same : s ≡ base = same_Some s base (sym at ∙ sym (ap (monitor_at (monitors_of walk.slots.items.now)) c.slot-then-is_there.ensures) ∙ c.monitor-base.ensures.value) in
    subst (λ (t : Stored g.row.M-State.Denot). is_below walk.event.now.binding.now t.instance ≡ true) same below

pub tell-requires-clause-among : goal.tell-requires-clause-among
tell-requires-clause-among g c =
    let walk = c.args.self.now in
    let lists = walk.awake.now in
    let none : Listed = record { slot = 0; age = 0 } in
    let x = get_or c.args.entries.now c.loop-entry.entry-index none in
    let (low, read) = c.requires.each x (Contains-get_or c.args.entries.now c.loop-entry.entry-index none c.loop-entry-test.true) in
    let card : c.card_of-card.result.now ≡ card_at lists x.slot = c.card_of-card.ensures ∙ ap (λ (n : ℕ). slice_index_or c.cards-cards.result.now n fresh) c.slot.ensures ∙ ap (λ (l : List Card). slice_index_or l x.slot fresh) c.cards-cards.ensures in
    let age = c.is_there.ensures ∙ ap (λ (y : Card). (y.age / 2 == x.age / 2)) card in
    let (on, (s, at, below, among)) = read (there_by lists.cards x low ∙ sym age ∙ c.if-is_there.true) in
    let base = c.monitor-base.result.now in
    let same : s ≡ base = same_Some s base (sym at ∙ sym (ap (monitor_at (monitors_of walk.slots.items.now)) c.slot-then-is_there.ensures) ∙ c.monitor-base.ensures.value) in
    subst (λ (t : Stored g.row.M-State.Denot). AreAmong walk.ending.now (mask_of t.instance) walk.ends) same among

pub returns-in_default-clause-steps : goal.returns-in_default-clause-steps
returns-in_default-clause-steps g c =
    let lists = c.args.self.now.awake.now in
    let cards = lists.cards in
    let entries = c.args.entries.now in
    let i = c.loop-entry.entry-index in
    let none : Listed = record { slot = 0; age = 0 } in
    let x = get_or entries i none in
    let low = (c.requires.each x (Contains-get_or entries i none c.loop-entry-test.true)).0 in
    let card : c.card_of-card.result.now ≡ card_at lists x.slot = c.card_of-card.ensures ∙ ap (λ (n : ℕ). slice_index_or c.cards-cards.result.now n fresh) c.slot.ensures ∙ ap (λ (l : List Card). slice_index_or l x.slot fresh) c.cards-cards.ensures in
    let age = c.is_there.ensures ∙ ap (λ (y : Card). (y.age / 2 == x.age / 2)) card in
    let is : is_there cards x ≡ true = there_by cards x low ∙ sym age ∙ c.if-is_there.true in
    let more = slots_at cards entries entries i none true refl c.loop-entry-test.true is in
    let size : length (slots_there cards (take (i + 1) entries)) ≡ length (slots_there cards (take i entries)) + 1 = ap length more ∙ length-append (slots_there cards (take i entries)) (x.slot ∷ []) in
    omega (arith, size, slots_fewer cards entries (i + 1), c.loop-entry.invariant.steps, c.monitor-base.ensures.steps)

pub loop-entry-preserved : goal.loop-entry-preserved
loop-entry-preserved g c =
    let inv = c.loop-entry.invariant in
    let walk = c.args.self.now in
    let event = walk.event.now in
    let m = g.M.Monitor.meaning (g.M.Monitor.definition event.rules.now) in
    let Stands = g.M.Monitor.StandsFor event.rules.now in
    let HasNumber = g.M.Monitor.HasNumber event.rules.now in
    let monitors = monitors_of walk.slots.items.now in
    let lists = walk.awake.now in
    let cards = lists.cards in
    let entries = c.args.entries.now in
    let i = c.loop-entry.entry-index in
    let none : Listed = record { slot = 0; age = 0 } in
    let x = get_or entries i none in
    let (low, read) = c.requires.each x (Contains-get_or entries i none c.loop-entry-test.true) in
    let card : c.card_of-card.result.now ≡ card_at lists x.slot = c.card_of-card.ensures ∙ ap (λ (n : ℕ). slice_index_or c.cards-cards.result.now n fresh) c.slot.ensures ∙ ap (λ (l : List Card). slice_index_or l x.slot fresh) c.cards-cards.ensures in
    let age = c.is_there.ensures ∙ ap (λ (y : Card). (y.age / 2 == x.age / 2)) card in
    let same = there_by cards x low ∙ sym age in
    let slots = slots_there cards (take i entries) in
    let R = IsShiftAt m Stands HasNumber event.letter.0 event.objects.now event.binding.now walk.ending.now lists monitors in
    let Q = IsReadAt m Stands event.letter.0 event.binding.now event.objects.now event.marks.now.list monitors in
    elim c.if-is_there.branch [
      | then-is_there+in-Shifts w ↦
          let more = slots_at cards entries entries i none true refl c.loop-entry-test.true (same ∙ w.if-is_there.true) in
          let base = w.monitor-base.result.now in
          let here : monitor_at monitors x.slot ≡ Some base = sym (ap (monitor_at monitors) w.slot-then-is_there.ensures) ∙ w.monitor-base.ensures.value in
          let shift : Shift = record { slot = w.slot_number.result; number = w.in-Shifts.number } in
          let own = (read (same ∙ w.if-is_there.true)).0 in
          let told : IsShifting m Stands HasNumber event.letter.0 event.objects.now event.binding.now walk.ending.now c.args.asked.letters (card_at lists x.slot) base shift.number =
          subst (λ (y : Card). IsShifting m Stands HasNumber event.letter.0 event.objects.now event.binding.now walk.ending.now c.args.asked.letters y base shift.number) card w.in-Shifts.ensures.told in
          let is : IsShifting m Stands HasNumber event.letter.0 event.objects.now event.binding.now walk.ending.now lists.letters (card_at lists x.slot) base shift.number =
          shifts_all m Stands HasNumber event.letter.0 event.objects.now event.binding.now walk.ending.now lists.letters c.args.asked.letters (card_at lists x.slot) base shift.number c.requires.asks.others own told in
          rw (w.turns-is, w.shifts-is, w.sifted-is, w.count-is, w.steps-is, more) (record {
            sifted = sifted_told R Q slots x.slot (take c.loop-entry.count c.loop-entry.shifts) (take w.push_shift.new.count w.push_shift.new.shifts) c.loop-entry.sifted.1.1.0.items c.loop-entry.sifted.1.1.1.0.items inv.sifted
                (Some shift, (base, here, w.slot_number.ensures, is), w.push_shift.ensures.added);
            turns = w.tell.ensures.turns;
            few = omega (arith, inv.few, w.push_shift.ensures.count);
            room = omega (arith, inv.few, w.push_shift.ensures.count, w.push_shift.ensures.length, inv.size, c.requires.room, ap length c.as_mut_slice-shifts.ensures.value, c.loop-entry-test.true);
            size = w.push_shift.ensures.length ∙ inv.size;
            steps = omega (arith, length-append slots (x.slot ∷ []), inv.steps, w.monitor-base.ensures.steps);
          })
      | then-is_there+in-Rests w ↦
          let more = slots_at cards entries entries i none true refl c.loop-entry-test.true (same ∙ w.if-is_there.true) in
          let base = w.monitor-base.result.now in
          let here : monitor_at monitors x.slot ≡ Some base = sym (ap (monitor_at monitors) w.slot-then-is_there.ensures) ∙ w.monitor-base.ensures.value in
          let shifts = take c.loop-entry.count c.loop-entry.shifts in
          let moves = c.loop-entry.sifted.1.1.0.items in
          let rests = c.loop-entry.sifted.1.1.1.0.items in
          let nothing : R x.slot None = (base, here, w.in-Rests.ensures.told) in
          let rested : AreSifted R Q (slots ++ x.slot ∷ []) shifts moves w.note_rest.new.rests.items = elim w.note_rest.ensures [
            | inl same ↦ subst (λ (l : List ℕ). AreSifted R Q (slots ++ x.slot ∷ []) shifts moves l) (sym same)
                (sifted_told R Q slots x.slot shifts shifts moves rests inv.sifted (None, nothing, sym (append-nil shifts)))
            | inr more ↦ subst (λ (l : List ℕ). AreSifted R Q (slots ++ x.slot ∷ []) shifts moves l) (sym (more ∙ ap (λ (n : ℕ). rests ++ n ∷ []) w.slot-in-Rests.ensures))
                (sifted_rest R Q slots x.slot shifts moves rests inv.sifted nothing)
          ] in
          rw (w.turns-is, w.shifts-is, w.sifted-is, w.count-is, w.steps-is, more) (record {
            sifted = rested;
            turns = w.tell.ensures.turns;
            few = omega (arith, inv.few);
            room = inv.room;
            size = inv.size;
            steps = omega (arith, length-append slots (x.slot ∷ []), inv.steps, w.monitor-base.ensures.steps);
          })
      | then-is_there+in-Nothing+in-Ok w ↦
          let more = slots_at cards entries entries i none true refl c.loop-entry-test.true (same ∙ w.if-is_there.true) in
          rw (w.turns-is, w.shifts-is, w.sifted-is, w.count-is, w.steps-is, more) (record {
            sifted = sifted_read R Q slots x.slot (take c.loop-entry.count c.loop-entry.shifts) c.loop-entry.sifted.1.1.0.items w.work_out.new.moves.items c.loop-entry.sifted.1.1.1.0.items inv.sifted (rw w.slot-in-Nothing.ensures at w.in-Ok.ensures);
            turns = w.tell.ensures.turns;
            few = omega (arith, inv.few);
            room = inv.room;
            size = inv.size;
            steps = omega (arith, length-append slots (x.slot ∷ []), inv.steps, w.monitor-base.ensures.steps);
          })
      | else-is_there w ↦
          let more = slots_at cards entries entries i none false refl c.loop-entry-test.true (same ∙ w.if-is_there.false) in
          rw (w.turns-is, w.shifts-is, w.sifted-is, w.count-is, w.steps-is, more, append-nil slots) (record {
            sifted = inv.sifted;
            turns = inv.turns;
            few = omega (arith, inv.few);
            room = inv.room;
            size = inv.size;
            steps = inv.steps;
          })
    ]

pub push_shift-requires : goal.push_shift-requires
push_shift-requires g c = omega (arith, c.loop-entry.invariant.few, c.loop-entry.invariant.size, c.requires.room, ap length c.as_mut_slice-shifts.ensures.value, c.loop-entry-test.true)

pub returns-clause-sifted : goal.returns-clause-sifted
returns-clause-sifted g c =
    let walk = c.args.self.now in
    let event = walk.event.now in
    let m = g.M.Monitor.meaning (g.M.Monitor.definition event.rules.now) in
    let Stands = g.M.Monitor.StandsFor event.rules.now in
    let HasNumber = g.M.Monitor.HasNumber event.rules.now in
    let monitors = monitors_of walk.slots.items.now in
    let lists = walk.awake.now in
    let inv = c.loop-entry.invariant in
    let items : List Shift = c.args.sifted.now.shifts.items in
    let new : List Shift = c.loop-entry.shifts in
    let value = c.as_mut_slice-shifts.ensures.value in
    let whole : length items ≡ c.args.sifted.now.shifts.len = sym (ap length value) ∙ c.as_mut_slice-shifts.ensures.len in
    let size : length new ≡ length items = inv.size ∙ ap length value in
    let R = IsShiftAt m Stands HasNumber event.letter.0 event.objects.now event.binding.now walk.ending.now lists monitors in
    let Q = IsReadAt m Stands event.letter.0 event.binding.now event.objects.now event.marks.now.list monitors in
    rw (written_back c.args.sifted.now.shifts.len items new whole size) (
      inv.room,
      subst (λ (l : List Listed). AreSifted R Q (slots_there lists.cards l) (take c.loop-entry.count new) c.loop-entry.sifted.1.1.0.items c.loop-entry.sifted.1.1.1.0.items)
          (take_all c.loop-entry.entry-index c.args.entries.now c.loop-entry-test.false) inv.sifted,
    )

pub returns-clause-length : goal.returns-clause-length
returns-clause-length g c =
    let items : List Shift = c.args.sifted.now.shifts.items in
    let new : List Shift = c.loop-entry.shifts in
    let value = c.as_mut_slice-shifts.ensures.value in
    let whole : length items ≡ c.args.sifted.now.shifts.len = sym (ap length value) ∙ c.as_mut_slice-shifts.ensures.len in
    let size : length new ≡ length items = c.loop-entry.invariant.size ∙ ap length value in
    rw (written_back c.args.sifted.now.shifts.len items new whole size) size

pub returns-in_default-clause-length : goal.returns-in_default-clause-length
returns-in_default-clause-length g c =
    let items : List Shift = c.args.sifted.now.shifts.items in
    let new : List Shift = c.loop-entry.shifts in
    let value = c.as_mut_slice-shifts.ensures.value in
    let whole : length items ≡ c.args.sifted.now.shifts.len = sym (ap length value) ∙ c.as_mut_slice-shifts.ensures.len in
    let size : length new ≡ length items = c.loop-entry.invariant.size ∙ ap length value in
    rw (written_back c.args.sifted.now.shifts.len items new whole size) size
