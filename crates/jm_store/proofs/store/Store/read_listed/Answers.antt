use Rattle.std.proofs.Common.{◌≡◌, ◌+◌, ◌<◌, List, [], ◌∷◌, true, false, take, length, get_or, refl, sym, ap, ◌∙◌, subst, arith, append-nil}
use Rattle.std.specs.Prelude.{Some, None, Contains}
use Rattle.std.proofs.lemmas.List.{take_all, length-append}
use Rattle.std.proofs.lemmas.List.Elements.{Contains-get_or}
use Rattle.std.proofs.lemmas.Option.{same_Some}
use Rattle.jm_awake.specs.declared.card.Listed.{Listed}
use Rattle.jm_awake.specs.Awake.{SlotList, list_at, slots_there, IsListOf}
use Rattle.jm_awake.proofs.RestLemmas.{loosen}
use Rattle.jm_model.specs.Bindings.{is_below}
use Rattle.jm_store.specs.Slots.{monitor_at}
use Rattle.jm_monitors.specs.declared.stored.Stored.{Stored}
use Rattle.jm_store.specs.Listed.{occupants_of}
use Rattle.jm_store.proofs.GivenLemmas.{pushed}
use Rattle.jm_store.proofs.ListedLemmas.{listed_each, slots_at, slots_fewer, same_list}
use Rattle.jm_store.proofs.store.Store.read_listed.Goals as goal
use Rattle.jm_store.proofs.store.Store.read_listed.Goals.{then-is_there+in_ok-step+in-Some+in_ok-push-in-Some, then-is_there+in_ok-step+in-None, else-is_there}

pub loop-at-init : goal.loop-at-init
loop-at-init g c = record {
  moves = c.requires.none;
  listed = record { sound = loosen (Some c.args.listed.now.place) (occupants_of c.args.self.now.monitors) c.args.awake.now c.requires.list.listed.sound; rested = c.requires.list.listed.rested };
  lists = refl;
  there = λ x. refl;
  steps = omega arith;
}

pub entries-requires : goal.entries-requires
entries-requires g c = subst (λ (l : List SlotList). c.args.listed.now.place < length l) (sym c.loop-at.invariant.lists) c.requires.list.within

pub bounds-entries-at : goal.bounds-entries-at
bounds-entries-at g c =
    let same : c.entries.result.now ≡ c.entries-at-end.result.now = c.entries.ensures ∙ ap (λ (l : SlotList). l.entries) (same_list c.args.awake.now c.loop-at.awake c.args.listed.now.place c.loop-at.invariant.lists) ∙ sym c.entries-at-end.ensures in
    omega (arith, ap length same, c.loop-at-test.true)

pub read_entry-requires-clause-above : goal.read_entry-requires-clause-above
read_entry-requires-clause-above g c = λ s at.
    let m = g.M.Monitor.meaning (g.M.Monitor.definition c.args.listed.now.event.rules.now) in
    let Stands = g.M.Monitor.StandsFor c.args.listed.now.event.rules.now in
    let same = same_list c.args.awake.now c.loop-at.awake c.args.listed.now.place c.loop-at.invariant.lists in
    let of : IsListOf (list_at c.loop-at.awake c.args.listed.now.place) c.args.listed.now.event.letter.0 c.args.listed.now.event.binding.now =
    subst (λ (l : SlotList). IsListOf l c.args.listed.now.event.letter.0 c.args.listed.now.event.binding.now) (sym same) c.requires.list.of_event in
    let none : Listed = record { slot = 0; age = 0 } in
    let x = get_or c.entries.result.now c.loop-at.at none in
    let whole : c.entries.result.now ≡ c.entries-at-end.result.now = c.entries.ensures ∙ ap (λ (l : SlotList). l.entries) same ∙ sym c.entries-at-end.ensures in
    let low : c.loop-at.at < length c.entries.result.now = omega (arith, ap length whole, c.loop-at-test.true) in
    let has : Contains (list_at c.loop-at.awake c.args.listed.now.place).entries x = subst (λ (l : List Listed). Contains l x) c.entries.ensures (Contains-get_or c.entries.result.now c.loop-at.at none low) in
    let (t, there, below) = listed_each m Stands c.args.listed.now.event.objects.now (Some c.args.listed.now.place) c.args.self.now.monitors c.loop-at.awake c.args.listed.now.place c.args.listed.now.event.letter.0 c.args.listed.now.event.binding.now of c.loop-at.invariant.listed
    x has (sym c.is_there.ensures ∙ c.if-is_there.true) in
    subst (λ (y : Stored g.row.M-State.Denot). is_below c.args.listed.now.event.binding.now y.instance ≡ true) (same_Some t s (sym there ∙ sym (ap (monitor_at c.args.self.now.monitors) c.slot.ensures) ∙ at)) below

pub returns-in_err-step-clause-listed : goal.returns-in_err-step-clause-listed
returns-in_err-step-clause-listed g c =
    let same = same_list c.args.awake.now c.loop-at.awake c.args.listed.now.place c.loop-at.invariant.lists in
    c.read_entry.ensures.listed c.args.listed.now.place (subst (λ (l : SlotList). IsListOf l c.args.listed.now.event.letter.0 c.args.listed.now.event.binding.now) (sym same) c.requires.list.of_event) c.loop-at.invariant.listed

pub returns-in_err-step-clause-steps : goal.returns-in_err-step-clause-steps
returns-in_err-step-clause-steps g c =
    let first = c.args.awake.now in
    let entries = (list_at first c.args.listed.now.place).entries in
    let at = c.loop-at.at in
    let none : Listed = record { slot = 0; age = 0 } in
    let x = get_or c.entries.result.now at none in
    let whole : c.entries.result.now ≡ entries = c.entries.ensures ∙ ap (λ (l : SlotList). l.entries) (same_list first c.loop-at.awake c.args.listed.now.place c.loop-at.invariant.lists) in
    let low : at < length entries = omega (arith, ap length c.entries-at-end.ensures, c.loop-at-test.true) in
    let more = slots_at first.cards entries c.entries.result.now at none true whole low (sym (c.loop-at.invariant.there x) ∙ sym c.is_there.ensures ∙ c.if-is_there.true) in
    let size : length (slots_there first.cards (take (at + 1) entries)) ≡ length (slots_there first.cards (take at entries)) + 1 = ap length more ∙ length-append (slots_there first.cards (take at entries)) (x.slot ∷ []) in
    omega (arith, size, slots_fewer first.cards entries (at + 1), c.loop-at.invariant.steps, c.in_err-step.ensures.steps)

pub returns-in_err-push-in-Some-clause-listed : goal.returns-in_err-push-in-Some-clause-listed
returns-in_err-push-in-Some-clause-listed g c =
    let same = same_list c.args.awake.now c.loop-at.awake c.args.listed.now.place c.loop-at.invariant.lists in
    c.read_entry.ensures.listed c.args.listed.now.place (subst (λ (l : SlotList). IsListOf l c.args.listed.now.event.letter.0 c.args.listed.now.event.binding.now) (sym same) c.requires.list.of_event) c.loop-at.invariant.listed

pub returns-in_err-push-in-Some-clause-steps : goal.returns-in_err-push-in-Some-clause-steps
returns-in_err-push-in-Some-clause-steps g c =
    let first = c.args.awake.now in
    let entries = (list_at first c.args.listed.now.place).entries in
    let at = c.loop-at.at in
    let none : Listed = record { slot = 0; age = 0 } in
    let x = get_or c.entries.result.now at none in
    let whole : c.entries.result.now ≡ entries = c.entries.ensures ∙ ap (λ (l : SlotList). l.entries) (same_list first c.loop-at.awake c.args.listed.now.place c.loop-at.invariant.lists) in
    let low : at < length entries = omega (arith, ap length c.entries-at-end.ensures, c.loop-at-test.true) in
    let more = slots_at first.cards entries c.entries.result.now at none true whole low (sym (c.loop-at.invariant.there x) ∙ sym c.is_there.ensures ∙ c.if-is_there.true) in
    let size : length (slots_there first.cards (take (at + 1) entries)) ≡ length (slots_there first.cards (take at entries)) + 1 = ap length more ∙ length-append (slots_there first.cards (take at entries)) (x.slot ∷ []) in
    omega (arith, size, slots_fewer first.cards entries (at + 1), c.loop-at.invariant.steps, c.in_ok-step.ensures.steps)

pub loop-at-preserved : goal.loop-at-preserved
loop-at-preserved g c =
    let inv = c.loop-at.invariant in
    let first = c.args.awake.now in
    let entries = (list_at first c.args.listed.now.place).entries in
    let at = c.loop-at.at in
    let none : Listed = record { slot = 0; age = 0 } in
    let x = get_or c.entries.result.now at none in
    let same = same_list first c.loop-at.awake c.args.listed.now.place inv.lists in
    let whole : c.entries.result.now ≡ entries = c.entries.ensures ∙ ap (λ (l : SlotList). l.entries) same in
    let low : at < length entries = omega (arith, ap length c.entries-at-end.ensures, c.loop-at-test.true) in
    let slots = slots_there first.cards (take at entries) in
    elim c.if-is_there.branch [
      | then-is_there+in_ok-step+in-Some+in_ok-push-in-Some w ↦
          let more = slots_at first.cards entries c.entries.result.now at none true whole low (sym (inv.there x) ∙ sym c.is_there.ensures ∙ w.if-is_there.true) in
          let read = w.in_ok-step.ensures in
          let made = rw (w.in-Some.is, w.slot.ensures) at read.moves in
          rw (w.awake-is, w.moves-is, w.steps-is, more) (record {
            moves = pushed _ slots x.slot c.loop-at.moves.items w.push.new.self.items inv.moves (Some w.in-Some.step, made, w.in_ok-push-in-Some.ensures.items);
            listed = read.listed c.args.listed.now.place (subst (λ (l : SlotList). IsListOf l c.args.listed.now.event.letter.0 c.args.listed.now.event.binding.now) (sym same) c.requires.list.of_event) inv.listed;
            lists = read.entries.lists ∙ inv.lists;
            there = λ y. read.entries.there y ∙ inv.there y;
            steps = omega (arith, length-append slots (x.slot ∷ []), inv.steps, read.steps);
          })
      | then-is_there+in_ok-step+in-None w ↦
          let more = slots_at first.cards entries c.entries.result.now at none true whole low (sym (inv.there x) ∙ sym c.is_there.ensures ∙ w.if-is_there.true) in
          let read = w.in_ok-step.ensures in
          let made = rw (w.in-None.is, w.slot.ensures) at read.moves in
          rw (w.awake-is, w.moves-is, w.steps-is, more) (record {
            moves = pushed _ slots x.slot c.loop-at.moves.items c.loop-at.moves.items inv.moves (None, made, sym (append-nil c.loop-at.moves.items));
            listed = read.listed c.args.listed.now.place (subst (λ (l : SlotList). IsListOf l c.args.listed.now.event.letter.0 c.args.listed.now.event.binding.now) (sym same) c.requires.list.of_event) inv.listed;
            lists = read.entries.lists ∙ inv.lists;
            there = λ y. read.entries.there y ∙ inv.there y;
            steps = omega (arith, length-append slots (x.slot ∷ []), inv.steps, read.steps);
          })
      | else-is_there w ↦
          let more = slots_at first.cards entries c.entries.result.now at none false whole low (sym (inv.there x) ∙ sym c.is_there.ensures ∙ w.if-is_there.false) in
          rw (w.awake-is, w.moves-is, w.steps-is, more, append-nil slots) (record { moves = inv.moves; listed = inv.listed; lists = inv.lists; there = inv.there; steps = inv.steps })
    ]

pub returns-clause-moves : goal.returns-clause-moves
returns-clause-moves g c =
    let entries = (list_at c.args.awake.now c.args.listed.now.place).entries in
    let size = ap length c.entries-at-end.ensures in
    rw (take_all c.loop-at.at entries (omega (arith, size, c.loop-at-test.false))) at c.loop-at.invariant.moves

pub returns-clause-listed : goal.returns-clause-listed
returns-clause-listed g c = c.loop-at.invariant.listed

pub returns-clause-steps : goal.returns-clause-steps
returns-clause-steps g c =
    let entries = (list_at c.args.awake.now c.args.listed.now.place).entries in
    let size = ap length c.entries-at-end.ensures in
    rw (take_all c.loop-at.at entries (omega (arith, size, c.loop-at-test.false))) at c.loop-at.invariant.steps
