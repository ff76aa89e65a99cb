use Rattle.std.proofs.Common.{ℕ, List, length, ap, sym, subst, ◌∙◌}
use Rattle.std.proofs.lemmas.List.{length-map}
use Rattle.jm_earley.specs.DeadSets.{AreDeadSets}
use Rattle.jm_earley.specs.Charts.{AreBelow}
use Rattle.jm_earley.proofs.SetLemmas.{still_below}
use Rattle.jm_earley.proofs.chart.Charts.of.Goals as goal

pub invariant_of-result : goal.invariant_of-result
invariant_of-result c =
    let count = ap length c.in_ok-params.ensures.value ∙ length-map c.args.table.now.events (λ e. e.mask) in (
      record {
        spell = c.in_ok-grammar.ensures.spell;
        letters = subst (λ (k : ℕ). AreBelow c.in_ok-grammar.grammar.productions k) (sym count)
            (still_below c.args.grammar.now.productions c.in_ok-grammar.grammar.productions (length c.args.table.now.events) c.in_ok-grammar.ensures.kept c.requires);
        few = c.in_ok-params.ensures.bounded;
        empty = c.productive-nullable.ensures;
      },
      subst (λ (params : List ℕ). AreDeadSets c.in_ok-grammar.grammar.productions params c.in_ok-dead.dead) c.as_slice.ensures.value c.in_ok-dead.ensures,
    )
