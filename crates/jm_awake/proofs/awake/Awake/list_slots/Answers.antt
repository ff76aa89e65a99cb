use Rattle.std.proofs.lemmas.List.{take_more, take_all}
use Rattle.jm_awake.proofs.AwakeLemmas.{none_listed, listed_more}
use Rattle.jm_awake.proofs.awake.Awake.list_slots.Goals as goal

pub loop-slot-init : goal.loop-slot-init
loop-slot-init c = rw c.in_ok-entries.ensures.items (none_listed _ _)

pub loop-slot-preserved : goal.loop-slot-preserved
loop-slot-preserved c =
    rw (take_more c.args.slots.now c.loop-slot.slot-index 0 c.loop-slot-test.true, c.in_ok-push.ensures.items)
    (listed_more _ _ _ _ _ _ _ _ c.loop-slot.invariant c.in-Some.ensures)

pub returns : goal.returns
returns c = rw (take_all c.loop-slot.slot-index c.args.slots.now c.loop-slot-test.false) at c.loop-slot.invariant
