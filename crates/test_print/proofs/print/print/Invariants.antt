use Rattle.std.proofs.Common.{All}
use Rattle.test_print.specs.Shops.{IsModest}
use Rattle.test_print.proofs.print.print.Given as goal

abbrev pub invariant-loop-line : goal.invariant-loop-line
invariant-loop-line l = All IsModest l.history
