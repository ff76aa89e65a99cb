use Rattle.std.proofs.Common.{ℕ, ◌≡◌, List}
use Rattle.jm_machine.specs.Meanings.{first_of}
use Rattle.jm_machine.specs.Configurations.{AreAfter}
use Rattle.jm_machine.proofs.HitLemmas.{HasHitsOf}
use Rattle.jm_machine.proofs.rules.Rules.hits_of_each.Given as goal

abbrev pub invariant-loop-number : goal.invariant-loop-number
invariant-loop-number l = record {
  before : l.before ≡ first_of l.self.definition.properties l.number;
  hits : (w : List ℕ) → AreAfter l.self.parts l.places l.otherwise w → HasHitsOf l.self.definition w l.number l.hits;
}
