use Rattle.std.proofs.Common.{ℕ, ◌≡◌, ◌<◌, List, Some}
use Rattle.std.specs.Prelude.{slice_get}
use Rattle.jm_model.specs.Meanings.{IsCutWord}
use Rattle.jm_machine.specs.PropertyMeanings.{property_meaning}
use Rattle.jm_machine.specs.CompiledProperties.{CompiledProperty}
use Rattle.jm_machine.specs.Configurations.{AreAfter}
use Rattle.jm_machine.proofs.rules.Rules.is_each_cut.Given as goal

abbrev pub invariant-loop-number : goal.invariant-loop-number
invariant-loop-number l = (w : List ℕ) → AreAfter l.self.parts l.places l.otherwise w → (j : ℕ) (part : CompiledProperty) → j < l.number → slice_get l.self.parts j ≡ Some part → IsCutWord (property_meaning part.definition) w l.dead
