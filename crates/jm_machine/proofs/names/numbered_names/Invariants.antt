use Rattle.std.proofs.Common.{◌≡◌, ◌∷◌, ◌+◌, map, take}
use Rattle.jm_machine.specs.HandlerNames.{numbered_from}
use Rattle.jm_machine.specs.CompiledProperties.{CompiledProperty}
use Rattle.jm_machine.proofs.names.numbered_names.Given as goal

abbrev pub invariant-loop-number : goal.invariant-loop-number
invariant-loop-number l = l.names
    ≡ numbered_from 0 (take (l.number + 1) (map (λ (c : CompiledProperty). c.definition.handlers) (l.first ∷ l.others)))
