use Rattle.std.proofs.Common.{◌≡◌, ◌++◌, map, drop}
use Rattle.jm_fsm.specs.Machines.{StateDefinition, AliasDefinition}
use Rattle.jm_fsm.proofs.machine.Fsm.categories.Given as goal

abbrev pub invariant-loop-state : goal.invariant-loop-state
invariant-loop-state l = l.names ++ map (λ (x : StateDefinition). x.name) (drop l.state-index l.state-items) ≡ map (λ (x : StateDefinition). x.name) l.state-items

abbrev pub invariant-loop-alias : goal.invariant-loop-alias
invariant-loop-alias l = l.names ++ map (λ (x : AliasDefinition). x.name) (drop l.alias-index l.alias-items) ≡ l.initial.names ++ map (λ (x : AliasDefinition). x.name) l.alias-items
