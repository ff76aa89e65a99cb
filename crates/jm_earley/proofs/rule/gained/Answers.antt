use Rattle.std.proofs.Common.{ℕ, List, ◌≡◌, ◌≤◌, length, drop, sym, subst, ◌∙◌, arith}
use Rattle.std.proofs.lemmas.List.{at_drop_all}
use Rattle.jm_earley.specs.declared.rule.Rule.{Rule}
use Rattle.jm_earley.specs.Rules.{with_rules}
use Rattle.jm_earley.proofs.RuleLemmas.{IsSound, none_sound, rules_sound, rules_grow, exact}
use Rattle.jm_earley.proofs.rule.gained.Goals as goal

-- what the loop over the rules ends with
whole_round : (rules : List Rule) (known next i : ℕ) → length rules ≤ i → with_rules (drop i rules) next ≡ with_rules rules known → next ≡ with_rules rules known
whole_round rules known next i end so_far = sym (at_drop_all (λ (l : List Rule). with_rules l next) rules i end) ∙ so_far

pub rounds-init : goal.rounds-init
rounds-init c = none_sound c.args.rules.now

pub rounds-preserved : goal.rounds-preserved
rounds-preserved c =
    let rules = c.args.rules.now in
    let is = whole_round rules c.rounds.known c.loop-rule.next c.loop-rule.rule-index c.loop-rule-test.false c.loop-rule.invariant in
    subst (λ (k : ℕ). IsSound rules k) (sym is) (rules_sound rules c.rounds.known c.rounds.invariant)

pub rounds-smaller : goal.rounds-smaller
rounds-smaller c =
    let rules = c.args.rules.now in
    let is = whole_round rules c.rounds.known c.loop-rule.next c.loop-rule.rule-index c.loop-rule-test.false c.loop-rule.invariant in
    let grown : c.rounds.known ≤ c.loop-rule.next = subst (λ (k : ℕ). c.rounds.known ≤ k) (sym is) (rules_grow rules c.rounds.known) in
    omega (arith, grown, c.if-next-known.false)

pub returns-then-next-known : goal.returns-then-next-known
returns-then-next-known c =
    let rules = c.args.rules.now in
    let is = whole_round rules c.rounds.known c.loop-rule.next c.loop-rule.rule-index c.loop-rule-test.false c.loop-rule.invariant in
    exact rules c.rounds.known c.rounds.invariant (sym is ∙ c.if-next-known.true)
