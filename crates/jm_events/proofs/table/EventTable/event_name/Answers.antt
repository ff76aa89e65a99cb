use Rattle.jm_events.proofs.RowLemmas.{names-events_of, length-events_of}
use Rattle.jm_events.proofs.table.EventTable.event_name.Goals as goal

pub name-requires : goal.name-requires
name-requires c = rw (← length-events_of _ _ c.self.invariant.row_each) (rw (← c.self.view_is) at c.requires)

pub returns : goal.returns
returns c = rw (← c.self.view_is, names-events_of _ _ c.self.invariant.row_each) c.name.ensures
