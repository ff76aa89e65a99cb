use Rattle.std.proofs.Common.{sym, ◌∙◌}
use Rattle.jm_machine.proofs.HandlerLemmas.{unknown_here, known_here}
use Rattle.jm_machine.proofs.handlers.check_categories.Goals as goal

pub returns-then-is_none : goal.returns-then-is_none
returns-then-is_none c =
    rw c.into.ensures (sym c.loop-handler.invariant
    ∙ unknown_here c.args.bytes.now c.args.categories.now c.args.handlers.now c.loop-handler.handler-index _ c.name_of.result.now c.find.result c.loop-handler-test.true c.name_of.ensures c.find.ensures.value c.if-is_none.ensures)

pub loop-handler-preserved : goal.loop-handler-preserved
loop-handler-preserved c =
    known_here c.args.bytes.now c.args.categories.now c.args.handlers.now c.loop-handler.handler-index _ c.name_of.result.now c.find.result c.loop-handler-test.true c.name_of.ensures c.find.ensures.value c.if-is_none.ensures
    ∙ c.loop-handler.invariant
