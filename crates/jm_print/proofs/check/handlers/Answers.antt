use Rattle.jm_print.specs.Checks.{handler_line}
use Rattle.jm_print.proofs.ListLemmas.{line_written}
use Rattle.jm_print.proofs.check.handlers.Goals as goal

pub loop-number-preserved : goal.loop-number-preserved
loop-number-preserved c =
    line_written handler_line c.args.categories.now c.loop-number.number c.name.result.now c.args.page.now c.loop-number.page c.handler.new.page c.name.ensures c.loop-number.invariant c.in_ok-handler.ensures
