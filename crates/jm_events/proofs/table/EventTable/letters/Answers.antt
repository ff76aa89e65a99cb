use Rattle.std.proofs.Common.{sym, ◌∙◌}
use Rattle.jm_events.proofs.RowLemmas.{names-events_of, length-events_of}
use Rattle.jm_events.proofs.table.EventTable.letters.Goals as goal

pub returns-clause-value : goal.returns-clause-value
returns-clause-value c = rw (← c.self.view_is) (c.len.ensures.value ∙ sym (length-events_of _ _ c.self.invariant.row_each))

pub returns-clause-distinct : goal.returns-clause-distinct
returns-clause-distinct c = rw (← c.self.view_is, names-events_of _ _ c.self.invariant.row_each) c.len.ensures.distinct
