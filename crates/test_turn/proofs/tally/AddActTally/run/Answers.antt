use Rattle.std.proofs.Common.{[], ◌∷◌, ◌++◌, refl, ap}
use Rattle.test_turn.specs.Chains.{in_order}
use Rattle.test_turn.proofs.tally.AddActTally.run.Goals as goal

pub returns-clause-entry : goal.returns-clause-entry
returns-clause-entry c = (c.args.self.caller, refl, ap (λ r. in_order r ++ c.args.self.caller ∷ []) c.replace.ensures.value)
