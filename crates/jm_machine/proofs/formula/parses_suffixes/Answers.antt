use Rattle.std.proofs.Common.{◌<◌, ℕ, List, length, sym, subst}
use Rattle.std.specs.Prelude.{◌↔◌, All}
use Rattle.jm_ere.specs.Suffixes.{EndsIn}
use Rattle.jm_grammar.specs.Grammars.{AreBelow}
use Rattle.jm_grammar.specs.Meanings.{IsWord}
use Rattle.jm_machine.proofs.FormulaLemmas.{suffix_parser_engine}
use Rattle.jm_machine.proofs.SuffixLemmas.{kept_within, kept_below, suffix_words}
use Rattle.jm_machine.proofs.formula.parses_suffixes.Goals as goal

pub suffix_grammar-requires-clause-bounded : goal.suffix_grammar-requires-clause-bounded
suffix_grammar-requires-clause-bounded c =
    kept_within c.args.grammar.now c.in_ok-reduce.field-0 c.in_ok-reduce.ensures.kept 31 c.in_ok-reduce.ensures.start c.requires.bounded

pub suffix_grammar-requires-clause-below : goal.suffix_grammar-requires-clause-below
suffix_grammar-requires-clause-below c =
    subst (λ (n : ℕ). AreBelow c.in_ok-reduce.field-0.productions n) (sym c.letters.ensures.value)
    (kept_below c.args.grammar.now c.in_ok-reduce.field-0 c.in_ok-reduce.ensures.kept (length c.args.events.now.events) c.requires.below)

pub returns-clause-engine : goal.returns-clause-engine
returns-clause-engine c =
    let events = c.args.events.now.events in
    let reduced = c.in_ok-reduce.field-0 in
    let changed = c.in_ok-changed.changed in
    let charts = c.in_ok-of.field-0 in
    let words = subst (λ (n : ℕ). (w : List ℕ) → IsWord changed w ↔ (All (λ letter. letter < n) w × EndsIn (IsWord reduced) w)) c.letters.ensures.value c.in_ok-changed.ensures.words in
    suffix_parser_engine c.args.grammar.now charts events
    (suffix_words c.args.grammar.now reduced changed charts.grammar (length events) c.in_ok-reduce.ensures.words words c.in_ok-of.ensures.words) c.in_ok-of.ensures.params
