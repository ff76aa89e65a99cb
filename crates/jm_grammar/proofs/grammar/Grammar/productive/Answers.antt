use Rattle.std.proofs.Common.{ℕ, List, ◌≡◌, ◌≤◌, length, drop, sym, ap, subst, ◌∙◌, arith}
use Rattle.std.proofs.lemmas.List.{at_drop_all}
use Rattle.jm_grammar.specs.declared.grammar.Production.{Production}
use Rattle.jm_grammar.specs.Rounds.{round}
use Rattle.jm_grammar.proofs.RoundLemmas.{IsSound, none_sound, round_sound, round_grows, round_closed, exact}
use Rattle.jm_grammar.proofs.grammar.Grammar.productive.Goals as goal

-- what the loop over the productions ends with
whole_round : (ps read : List Production) (letters known next i : ℕ) → read ≡ ps → length read ≤ i → round (drop i read) letters next ≡ round read letters known → next ≡ round ps letters known
whole_round ps read letters known next i same end so_far =
    sym (at_drop_all (λ (l : List Production). round l letters next) read i end) ∙ so_far ∙ ap (λ (l : List Production). round l letters known) same

pub rounds-init : goal.rounds-init
rounds-init c = none_sound c.args.self.now.productions c.args.letters

pub rounds-preserved : goal.rounds-preserved
rounds-preserved c =
    let ps = c.args.self.now.productions in
    let is = whole_round ps c.productions-productions.result.now c.args.letters c.rounds.known c.loop-production.next c.loop-production.production-index c.productions-productions.ensures.value c.loop-production-test.false c.loop-production.invariant in
    subst (λ (k : ℕ). IsSound ps c.args.letters k) (sym is) (round_sound ps c.args.letters c.rounds.known c.productions-productions.ensures.small.each c.rounds.invariant)

pub rounds-smaller : goal.rounds-smaller
rounds-smaller c =
    let ps = c.args.self.now.productions in
    let is = whole_round ps c.productions-productions.result.now c.args.letters c.rounds.known c.loop-production.next c.loop-production.production-index c.productions-productions.ensures.value c.loop-production-test.false c.loop-production.invariant in
    let grown : c.rounds.known ≤ c.loop-production.next = subst (λ (k : ℕ). c.rounds.known ≤ k) (sym is) (round_grows ps c.args.letters ps c.rounds.known) in
    omega (arith, grown, c.if-next-known.false)

pub returns-then-next-known : goal.returns-then-next-known
returns-then-next-known c =
    let ps = c.args.self.now.productions in
    let is = whole_round ps c.productions-productions.result.now c.args.letters c.rounds.known c.loop-production.next c.loop-production.production-index c.productions-productions.ensures.value c.loop-production-test.false c.loop-production.invariant in
    exact ps c.args.letters c.rounds.known c.rounds.invariant (round_closed ps c.args.letters c.rounds.known c.productions-productions.ensures.small.each (sym is ∙ c.if-next-known.true))
