use Rattle.std.proofs.Common.{◌≡◌, ◌++◌, map, take}
use Rattle.jm_machine.specs.HandlerNames.{numbered}
use Rattle.jm_machine.proofs.names.add_numbered.Given as goal

abbrev pub invariant-loop-category : goal.invariant-loop-category
invariant-loop-category l = l.names ≡ l.initial.names ++ map (numbered l.number) (take l.category l.categories)
