use Rattle.std.proofs.Common.{◌≡◌, Some, map, take}
use Rattle.jm_events.specs.Names.{number_of}
use Rattle.jm_machine.proofs.handlers.groups_of.Given as goal

abbrev pub invariant-loop-handler : goal.invariant-loop-handler
invariant-loop-handler l = map Some l.groups.items ≡ map (number_of l.categories) (take l.handler l.handlers)
