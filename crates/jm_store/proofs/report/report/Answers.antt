use Rattle.std.proofs.Common.{arith}
use Rattle.jm_store.specs.Moves.{reached_by}
use Rattle.jm_store.proofs.ReportLemmas.{report_of_few, report_of_sorted}
use Rattle.jm_store.proofs.report.report.Goals as goal

pub returns : goal.returns
returns g c = λ distinct.
    report_of_few (g.M.Monitor.meaning (g.M.Monitor.definition c.args.rules.now)) (g.M.Monitor.StandsFor c.args.rules.now) (reached_by c.args.moves.now) c.in_ok-firings.firings
    (omega (arith, c.len.ensures, c.if-len-gt1.false)) (c.in_ok-firings.ensures distinct)

pub returns-then-len-gt1 : goal.returns-then-len-gt1
returns-then-len-gt1 g c = λ distinct.
    report_of_sorted (g.M.Monitor.meaning (g.M.Monitor.definition c.args.rules.now)) (g.M.Monitor.StandsFor c.args.rules.now) (reached_by c.args.moves.now) c.in_ok-firings.firings c.in_ok-sorted.sorted
    c.in_ok-sorted.ensures.permutation c.in_ok-sorted.ensures.ordered (c.in_ok-firings.ensures distinct)
