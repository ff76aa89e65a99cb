use Rattle.std.proofs.Common.{arith}
use Rattle.jm_print.specs.Checks.{event_line}
use Rattle.jm_print.proofs.ListLemmas.{item_written}
use Rattle.jm_print.proofs.check.events.Goals as goal

pub loop-letter-preserved : goal.loop-letter-preserved
loop-letter-preserved c =
    item_written (event_line c.args.table.now.parameters) c.args.table.now.events c.loop-letter.letter c.args.page.now c.loop-letter.page c.event.new.page
    (omega (arith, c.loop-letter-test.true, c.letters-letter-end.ensures.value)) c.loop-letter.invariant c.in_ok-event.ensures
