use Rattle.std.proofs.Common.{◌≡◌, drop}
use Rattle.jm_spec.specs.Faults.{modifier_fault}
use Rattle.jm_spec.proofs.tree.check_modifiers.Given as goal

abbrev pub invariant-loop-modifier : goal.invariant-loop-modifier
invariant-loop-modifier l = modifier_fault (drop l.modifier-index l.modifiers) ≡ modifier_fault l.modifiers
