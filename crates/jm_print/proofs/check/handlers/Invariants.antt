use Rattle.std.proofs.Common.{◌≡◌, ◌++◌, take}
use Rattle.std.specs.List.{flat_map}
use Rattle.jm_print.specs.Checks.{handler_line}
use Rattle.jm_print.proofs.check.handlers.Given as goal

abbrev pub invariant-loop-number : goal.invariant-loop-number
invariant-loop-number l = l.page ≡ l.initial.page ++ flat_map handler_line (take l.number l.categories)
