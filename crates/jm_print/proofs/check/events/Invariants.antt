use Rattle.std.proofs.Common.{◌≡◌, ◌++◌, take}
use Rattle.std.specs.List.{flat_map}
use Rattle.jm_print.specs.Checks.{event_line}
use Rattle.jm_print.proofs.check.events.Given as goal

abbrev pub invariant-loop-letter : goal.invariant-loop-letter
invariant-loop-letter l = l.page ≡ l.initial.page ++ flat_map (event_line l.table.parameters) (take l.letter l.table.events)
