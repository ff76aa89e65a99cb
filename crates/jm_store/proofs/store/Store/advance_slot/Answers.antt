use Rattle.jm_store.proofs.store.Store.advance_slot.Goals as goal

pub shift_slot-requires-clause-plain : goal.shift_slot-requires-clause-plain
shift_slot-requires-clause-plain g c = (c.in_ok-base.base.now, rw (← c.self.view_is) c.in_ok-base.ensures.value, c.in-Shifts.ensures)

pub rest_slot-requires-clause-resting : goal.rest_slot-requires-clause-resting
rest_slot-requires-clause-resting g c = (c.in_ok-base.base.now, rw (← c.self.view_is) c.in_ok-base.ensures.value, c.in-Rests.ensures)
