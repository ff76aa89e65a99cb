use Rattle.std.proofs.Common.{ℕ, ◌<◌, ◌↔◌, List, All, sym, subst, ◌∙◌, ap}
use Rattle.std.proofs.lemmas.Result.{IfOk-weaker}
use Rattle.jm_grammar.specs.declared.grammar.Production.{Production}
use Rattle.jm_grammar.specs.Grammars.{GrammarDefinition, HasSmallNumbers, AreBelow}
use Rattle.jm_grammar.specs.Meanings.{IsWord}
use Rattle.jm_ere.specs.Suffixes.{EndsIn}
use Rattle.jm_suffix.proofs.SuffixLemmas.{all_words, small_numbers, still_below}
use Rattle.jm_suffix.proofs.grammar.suffix_grammar.Goals as goal

pub of-requires-clause-numbers : goal.of-requires-clause-numbers
of-requires-clause-numbers c =
    let made = c.in_ok-productions.ensures in
    subst (λ (l : List Production). All HasSmallNumbers l) (sym made.2) (small_numbers c.args.grammar made.0 c.args.letters made.1 c.requires.bounded c.requires.below c.requires.most)

pub returns-clause-words : goal.returns-clause-words
returns-clause-words c =
    let made = c.in_ok-productions.ensures in
    let old = c.args.grammar in
    let letters = c.args.letters in
    IfOk-weaker c.of.result _ _
    (λ g is. subst (λ (d : GrammarDefinition). (word : List ℕ) → IsWord d word ↔ (All (λ letter. letter < letters) word × EndsIn (IsWord old) word))
    (ap (λ (l : List Production). record { productions = l; start = 62 }) (sym made.2) ∙ sym is)
    (all_words old made.0 letters made.1 c.requires.bounded c.requires.below c.requires.most))
    c.of.ensures.ok

pub returns-clause-below : goal.returns-clause-below
returns-clause-below c =
    let made = c.in_ok-productions.ensures in
    let letters = c.args.letters in
    IfOk-weaker c.of.result _ _
    (λ g is. subst (λ (d : GrammarDefinition). AreBelow d.productions letters)
    (ap (λ (l : List Production). record { productions = l; start = 62 }) (sym made.2) ∙ sym is)
    (still_below c.args.grammar made.0 letters made.1 c.requires.bounded c.requires.below c.requires.most))
    c.of.ensures.ok
