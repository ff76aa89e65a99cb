use Rattle.std.proofs.Common.{ℕ, List, ◌≡◌, ◌↔◌, ◌≤◌, length, map, ap, subst, ◌∙◌}
use Rattle.std.specs.Prelude.{IsBitSet}
use Rattle.std.proofs.lemmas.List.{take_all}
use Rattle.jm_grammar.specs.declared.grammar.Production.{Production}
use Rattle.jm_earley.specs.declared.rule.Rule.{Rule}
use Rattle.jm_earley.specs.Rules.{IsGained}
use Rattle.jm_earley.specs.LetterSets.{spelling_rule}
use Rattle.jm_earley.proofs.SpellLemmas.{set_exact}
use Rattle.jm_earley.proofs.letter_set.LetterSet.new.Goals as goal

pub returns-clause-exact : goal.returns-clause-exact
returns-clause-exact c =
    let ps = c.args.grammar.now.productions in
    let spells = c.productive-spells.result in
    let rule = spelling_rule c.args.letters spells in
    let end : length ps ≤ c.loop-production.production-index = subst (λ (l : List Production). length l ≤ c.loop-production.production-index) c.productions-production-items.ensures.value c.loop-production-test.false in
    let is : c.as_slice.result.now ≡ map rule ps =
    c.as_slice.ensures.value ∙ c.loop-production.invariant ∙ ap (λ (l : List Production). map rule l) (take_all c.loop-production.production-index ps end) in
    set_exact ps c.productions-production-items.ensures.small.each (record { letters = c.args.letters; spells = spells; goes_on = c.gained-goes_on.result }) c.productive-spells.ensures
    (subst (λ (rules : List Rule). (n : ℕ) → IsBitSet c.gained-goes_on.result n ↔ IsGained rules n) is c.gained-goes_on.ensures)
