use Rattle.std.proofs.Common.{get_or}
use Rattle.std.proofs.lemmas.List.{take_all, get_or_default}
use Rattle.std.proofs.lemmas.List.Elements.{Contains-get_or}
use Rattle.jm_store.specs.declared.walk.Shift.{Shift}
use Rattle.jm_store.specs.Slots.{monitors_of}
use Rattle.jm_store.proofs.ShiftedLemmas.{has_still}
use Rattle.jm_store.proofs.WalkLemmas.{alike_same, alike_next, alike_size, shifted_none, shifted_more}
use Rattle.jm_store.proofs.monitors.shift_all.Goals as goal

pub loop-shift-init : goal.loop-shift-init
loop-shift-init g c = record {
  moved = shifted_none (g.M.Monitor.HasNumber c.args.rules.now) (monitors_of c.args.slots.now);
  alike = alike_same c.args.slots.now;
}

pub renumber-requires-clause-present : goal.renumber-requires-clause-present
renumber-requires-clause-present g c =
    let none : Shift = record { slot = 0; number = 0 } in
    let x = get_or c.args.shifts.now c.loop-shift.shift-index none in
    let ((s, at), low) = c.requires.present x (Contains-get_or c.args.shifts.now c.loop-shift.shift-index none c.loop-shift-test.true) in
    has_still c.args.slots.now c.loop-shift.slots c.loop-shift.invariant.alike x.slot s at

pub renumber-requires-clause-low : goal.renumber-requires-clause-low
renumber-requires-clause-low g c =
    let none : Shift = record { slot = 0; number = 0 } in
    (c.requires.present (get_or c.args.shifts.now c.loop-shift.shift-index none) (Contains-get_or c.args.shifts.now c.loop-shift.shift-index none c.loop-shift-test.true)).1

pub loop-shift-preserved : goal.loop-shift-preserved
loop-shift-preserved g c =
    let inv = c.loop-shift.invariant in
    let at = c.renumber.ensures in
    let i = c.loop-shift.shift-index in
    let none : Shift = record { slot = 0; number = 0 } in
    let x = get_or c.args.shifts.now i none in
    record {
      moved = shifted_more (g.M.Monitor.HasNumber c.args.rules.now) c.args.shifts.now i x (monitors_of c.args.slots.now) (monitors_of c.loop-shift.slots) (monitors_of c.renumber.new.slots)
          c.loop-shift-test.true (get_or_default c.args.shifts.now i none x c.loop-shift-test.true) c.requires.apart inv.moved at.at_key at.others (alike_size c.loop-shift.slots c.renumber.new.slots at.alike);
      alike = alike_next c.args.slots.now c.loop-shift.slots c.renumber.new.slots inv.alike at.alike;
    }

pub returns-clause-moved : goal.returns-clause-moved
returns-clause-moved g c = rw (take_all c.loop-shift.shift-index c.args.shifts.now c.loop-shift-test.false) at c.loop-shift.invariant.moved

pub returns-clause-alike : goal.returns-clause-alike
returns-clause-alike g c = c.loop-shift.invariant.alike
