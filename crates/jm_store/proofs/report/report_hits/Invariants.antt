use Rattle.std.proofs.Common.{◌≡◌, ◌++◌}
use Rattle.jm_store.specs.Reports.{firings_below}
use Rattle.jm_store.proofs.report.report_hits.Given as goal

abbrev pub invariant-loop-handler : goal.invariant-loop-handler
invariant-loop-handler l = l.firings ≡ l.initial.firings ++ firings_below l.instance l.hits l.handler
