use Rattle.std.proofs.Common.{◌<◌}
use Rattle.jm_print.proofs.history.Printer.estimate.Given as goal

abbrev pub invariant-loop-place : goal.invariant-loop-place
invariant-loop-place l = 0 < l.told
