use Rattle.std.proofs.Common.{ℕ, List, ◌≡◌, ◌↔◌, ◌≤◌, Contains, filter, length, take, sym, ap, subst, ◌∙◌}
use Rattle.std.proofs.lemmas.List.{take_all}
use Rattle.jm_grammar.specs.declared.grammar.Production.{Production}
use Rattle.jm_grammar.specs.Grammars.{GrammarDefinition, IsSmall}
use Rattle.jm_grammar.specs.Meanings.{Derives, IsWord, IsIn, DerivesSome}
use Rattle.jm_grammar.specs.Rounds.{are_known}
use Rattle.jm_grammar.proofs.ReduceLemmas.{same_words, kept_derive, kept_are_there, kept_small}
use Rattle.jm_grammar.proofs.grammar.Grammar.reduce.Goals as goal

-- what the loop over the productions ends with
all_kept : (ps read kept : List Production) (known i : ℕ) → read ≡ ps → length read ≤ i → kept ≡ filter (λ p. are_known 4294967295 known p.symbols) (take i ps) → kept ≡ filter (λ p. are_known 4294967295 known p.symbols) ps
all_kept ps read kept known i same end so_far =
    so_far ∙ ap (λ (l : List Production). filter (λ p. are_known 4294967295 known p.symbols) l) (take_all i ps (subst (λ (l : List Production). length l ≤ i) same end))

pub new-requires : goal.new-requires
new-requires c =
    let g = c.args.self.now in
    let known = c.productive-known.result in
    let kept = c.loop-production.kept.items in
    let read = c.productions-production-items in
    let is = all_kept g.productions read.result.now kept known c.loop-production.production-index read.ensures.value c.loop-production-test.false c.loop-production.invariant in
    subst (λ (s : ℕ). IsSmall kept s) (sym c.start.ensures.value)
    (kept_small g.productions read.ensures.small.each known c.productive-known.ensures kept is g.start read.ensures.small)

pub returns-clause-words : goal.returns-clause-words
returns-clause-words c =
    let g = c.args.self.now in
    let known = c.productive-known.result in
    let kept = c.loop-production.kept.items in
    let read = c.productions-production-items in
    let is = all_kept g.productions read.result.now kept known c.loop-production.production-index read.ensures.value c.loop-production-test.false c.loop-production.invariant in
    subst (λ (r : GrammarDefinition). (word : List ℕ) → IsWord r word ↔ IsWord g word) (sym c.new.ensures)
    (λ word. subst (λ (s : ℕ). Derives kept s word ↔ IsWord g word) (sym c.start.ensures.value)
    (same_words g.productions read.ensures.small.each known c.productive-known.ensures kept is g.start word))

pub returns-clause-spell : goal.returns-clause-spell
returns-clause-spell c =
    let g = c.args.self.now in
    let known = c.productive-known.result in
    let kept = c.loop-production.kept.items in
    let read = c.productions-production-items in
    let is = all_kept g.productions read.result.now kept known c.loop-production.production-index read.ensures.value c.loop-production-test.false c.loop-production.invariant in
    subst (λ (r : GrammarDefinition). (n : ℕ) → IsIn r.productions n → DerivesSome r.productions n) (sym c.new.ensures)
    (kept_derive g.productions read.ensures.small.each known c.productive-known.ensures kept is)

pub returns-clause-kept : goal.returns-clause-kept
returns-clause-kept c =
    let g = c.args.self.now in
    let known = c.productive-known.result in
    let kept = c.loop-production.kept.items in
    let read = c.productions-production-items in
    let is = all_kept g.productions read.result.now kept known c.loop-production.production-index read.ensures.value c.loop-production-test.false c.loop-production.invariant in
    subst (λ (r : GrammarDefinition). (p : Production) → Contains r.productions p → Contains g.productions p) (sym c.new.ensures)
    (kept_are_there g.productions read.ensures.small.each known c.productive-known.ensures kept is)
