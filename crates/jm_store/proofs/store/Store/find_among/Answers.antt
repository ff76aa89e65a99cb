use Rattle.std.proofs.Common.{get_or, refl, sym, arith}
use Rattle.std.specs.Prelude.{None}
use Rattle.std.proofs.lemmas.List.{take_all}
use Rattle.jm_store.specs.Moves.{IsReadAt}
use Rattle.jm_store.proofs.GivenLemmas.{pushed_next, first_pushed, none_pushed}
use Rattle.jm_store.proofs.store.Store.find_among.Goals as goal
use Rattle.jm_store.proofs.store.Store.find_among.Goals.{in-Some+in-Ok+then-is_some+else-is_some-2+in-Some-1, in-Some+in-Ok+then-is_some+else-is_some-2+in-None-1, in-Some+in-Ok+else-is_some+in-Some-1, in-Some+in-Ok+else-is_some+in-None-1, in_default}

pub loop-slot-preserved : goal.loop-slot-preserved
loop-slot-preserved g c =
    let event = c.args.event.now in
    let R = IsReadAt (g.M.Monitor.meaning (g.M.Monitor.definition event.rules.now)) (g.M.Monitor.StandsFor event.rules.now) event.letter.0 event.binding.now event.objects.now event.marks.now.list
    c.args.self.now.monitors in
    let slots = c.args.slots.now in
    let i = c.loop-slot.slot-index in
    let slot = get_or slots i 0 in
    let lt = c.loop-slot-test.true in
    let inv = c.loop-slot.invariant in
    elim c.match-lend.branch [
      | in-Some+in-Ok+then-is_some+else-is_some-2+in-Some-1 w ↦ rw w.only-is (record {
        read = λ before given. pushed_next R before slots i 0 _ _ lt (inv.read before given) (first_pushed R slot _ w.in-Ok.found (sym w.if-is_some-2.ensures) (rw (← c.self.view_is, w.in-Some.ensures.value) w.in-Ok.ensures));
        steps = omega (arith, inv.steps, w.in-Some.ensures.steps);
      })
      | in-Some+in-Ok+then-is_some+else-is_some-2+in-None-1 w ↦ rw w.only-is (record {
        read = λ before given. pushed_next R before slots i 0 _ _ lt (inv.read before given) (first_pushed R slot _ w.in-Ok.found (sym w.if-is_some-2.ensures) (rw (← c.self.view_is, w.in-Some.ensures.value) w.in-Ok.ensures));
        steps = omega (arith, inv.steps, w.in-Some.ensures.steps);
      })
      | in-Some+in-Ok+else-is_some+in-Some-1 w ↦ rw w.only-is (record {
        read = λ before given. pushed_next R before slots i 0 _ _ lt (inv.read before given) (none_pushed R slot _ w.in-Ok.found (sym w.if-is_some.ensures) (rw (← c.self.view_is, w.in-Some.ensures.value) w.in-Ok.ensures));
        steps = omega (arith, inv.steps, w.in-Some.ensures.steps);
      })
      | in-Some+in-Ok+else-is_some+in-None-1 w ↦ rw w.only-is (record {
        read = λ before given. pushed_next R before slots i 0 _ _ lt (inv.read before given) (none_pushed R slot _ w.in-Ok.found (sym w.if-is_some.ensures) (rw (← c.self.view_is, w.in-Some.ensures.value) w.in-Ok.ensures));
        steps = omega (arith, inv.steps, w.in-Some.ensures.steps);
      })
      | in_default w ↦ rw w.only-is (record {
        read = λ before given. pushed_next R before slots i 0 _ _ lt (inv.read before given) (none_pushed R slot _ None refl (rw (← c.self.view_is, w.in_default.ensures.value) refl));
        steps = omega (arith, inv.steps, w.in_default.ensures.steps);
      })
    ]

pub returns : goal.returns
returns g c =
    let whole = take_all c.loop-slot.slot-index c.args.slots.now c.loop-slot-test.false in
    record {
      read = λ before given. rw whole at (c.loop-slot.invariant.read before given);
      steps = omega (arith, c.loop-slot.invariant.steps, c.loop-slot.auto.slot-index-end);
    }
