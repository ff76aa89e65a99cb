use Rattle.std.proofs.Common.{ℕ, ◌≡◌, inl, inr, sym, subst, ◌∙◌}
use Rattle.jm_grammar.proofs.RoundLemmas.{of_bit}
use Rattle.jm_earley.specs.Growth.{IsPrediction}
use Rattle.jm_earley.proofs.GrowthLemmas.{grows_contains}
use Rattle.jm_earley.proofs.SetLemmas.{bits_with}
use Rattle.jm_earley.proofs.chart.Charts.predict.Goals as goal

pub returns-then-contains-clause-all : goal.returns-then-contains-clause-all
returns-then-contains-clause-all c = c.requires.predicted c.args.n (of_bit c.args.growth.now.predicted c.args.n (sym c.contains.ensures ∙ c.if-contains.true))

pub returns-clause-predicted : goal.returns-clause-predicted
returns-clause-predicted c = λ m bit number p at left.
    elim (bits_with c.args.growth.now.predicted c.args.n m c.requires.small bit) [
      | inl before ↦ grows_contains (IsPrediction c.args.self.now.grammar c.args.place c.args.n) c.args.growth.now.set c.begin_productions.new.set
          (record { production = number; dot = 0; origin = c.args.place }) c.in_ok-begin_productions.ensures.grows (c.requires.predicted m before number p at left)
      | inr same ↦ c.in_ok-begin_productions.ensures.all number p at (subst (λ (k : ℕ). p.left ≡ k) same left)
    ]
