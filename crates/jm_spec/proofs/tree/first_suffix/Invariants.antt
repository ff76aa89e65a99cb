use Rattle.std.proofs.Common.{◌≡◌, drop}
use Rattle.jm_spec.specs.Trees.{suffix_of}
use Rattle.jm_spec.proofs.tree.first_suffix.Given as goal

abbrev pub invariant-loop-modifier : goal.invariant-loop-modifier
invariant-loop-modifier l = suffix_of (drop l.modifier-index l.modifiers) ≡ suffix_of l.modifiers
