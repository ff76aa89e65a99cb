use Rattle.std.proofs.Common.{arith}
use Rattle.test_print.proofs.Printable.{are_printable, has_enough}
use Rattle.test_print.proofs.print.rendered.Goals as goal

pub render_history-requires : goal.render_history-requires
render_history-requires c =
    let a = c.args in
    are_printable _ (has_enough a.name.now a.table.now a.categories.now a.objects.now a.handlers.now (omega arith) (omega arith) (omega arith) (omega arith)) a.history.now c.requires
