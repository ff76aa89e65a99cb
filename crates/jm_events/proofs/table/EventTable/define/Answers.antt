use Rattle.std.proofs.Common.{◌<◌, length, arith}
use Rattle.jm_events.proofs.RowLemmas.{names-events_of, length-events_of, events_of-push, same_events, IsTable-push}
use Rattle.jm_events.proofs.table.EventTable.define.Goals as goal

pub invariant_of-self-2 : goal.invariant_of-self-2
invariant_of-self-2 c =
    let room : length c.self.inside.events < 32 = omega (arith, c.letters.ensures.value, c.letters.ensures.bounded, rw (← c.self.view_is, length-events_of _ _ c.self.invariant.row_each) at c.letters.ensures.value) in
    rw (c.in_ok-number.ensures.ok, c.push_reserved.ensures.items, c.reserve.ensures.items)
    (IsTable-push _ _ _ _ _ c.self.invariant room (rw (← c.self.view_is) at c.requires.bits))

pub append-requires-clause-absent : goal.append-requires-clause-absent
append-requires-clause-absent c = rw (← names-events_of _ _ c.self.invariant.row_each) (rw (← c.self.view_is) at c.requires.absent)

pub returns-clause-letter : goal.returns-clause-letter
returns-clause-letter c = rw (← c.self.view_is, length-events_of _ _ c.self.invariant.row_each) c.in_ok-number.ensures.number

pub returns-clause-ok : goal.returns-clause-ok
returns-clause-ok c =
    rw (← c.self.view_is, c.in_ok-number.ensures.ok, c.push_reserved.ensures.items, c.reserve.ensures.items)
    (same_events _ _ _ (events_of-push _ _ c.args.name.now _ c.self.invariant.row_each))
