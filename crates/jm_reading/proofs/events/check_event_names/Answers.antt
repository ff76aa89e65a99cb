use Rattle.std.proofs.Common.{sym, ◌∙◌, add-one}
use Rattle.jm_reading.proofs.EventLemmas.{bad_event, good_event}
use Rattle.jm_reading.proofs.events.check_event_names.Goals as goal

pub returns-then-is_reserved-clause-checked : goal.returns-then-is_reserved-clause-checked
returns-then-is_reserved-clause-checked g c = rw c.into.ensures (sym c.loop-letter.invariant ∙ bad_event g.W.GrammarWords.reserved c.args.table.now.events c.loop-letter.letter c.event_name.result.now c.event_line-line.result c.event_name.ensures c.event_line-line.ensures (sym c.if-is_reserved.ensures))

pub loop-letter-preserved : goal.loop-letter-preserved
loop-letter-preserved g c = rw add-one (good_event g.W.GrammarWords.reserved c.args.table.now.events c.loop-letter.letter c.event_name.result.now c.event_name.ensures (sym c.if-is_reserved.ensures) ∙ c.loop-letter.invariant)
