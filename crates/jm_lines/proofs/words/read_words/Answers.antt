use Rattle.std.proofs.Common.{refl, sym, ◌∙◌, rules, tests}
use Rattle.std.proofs.lemmas.List.{length_push, map-append}
use Rattle.std.proofs.lemmas.Iterator.Splits.{YieldsList-from_slice_split}
use Rattle.std.proofs.lemmas.Iterator.Consumers.{YieldsList-turn, YieldsList-end}
use Rattle.jm_lines.specs.Lines.{is_blank, content_of}
use Rattle.jm_lines.proofs.WordLemmas.{empty_more, word_more, all_found}
use Rattle.jm_lines.proofs.words.read_words.Goals as goal

pub loop-word-preserved-then-is_empty : goal.loop-word-preserved-then-is_empty
loop-word-preserved-then-is_empty c =
    let t = YieldsList-turn (YieldsList-from_slice_split _ is_blank (content_of c.args.line.now) (cc) (cc) refl (λ x b q k. search (rules, tests))) c.loop-word.yielded _ c.loop-word.yielded_by _ _ c.in-Some.word c.in-Some.is c.next.ensures.steps in
    rw length_push (empty_more _ _ _ _ _ t.0 t.1 c.loop-word.invariant (sym c.is_empty.ensures ∙ c.if-is_empty.true))

pub loop-word-preserved : goal.loop-word-preserved
loop-word-preserved c =
    let t = YieldsList-turn (YieldsList-from_slice_split _ is_blank (content_of c.args.line.now) (cc) (cc) refl (λ x b q k. search (rules, tests))) c.loop-word.yielded _ c.loop-word.yielded_by _ _ c.in-Some.word c.in-Some.is c.next.ensures.steps in
    rw (length_push, c.in_ok-push.ensures.items, map-append) (word_more _ _ _ _ _ t.0 t.1 c.loop-word.invariant (sym c.is_empty.ensures ∙ c.if-is_empty.false))

pub returns : goal.returns
returns c =
    let t = YieldsList-end (YieldsList-from_slice_split _ is_blank (content_of c.args.line.now) (cc) (cc) refl (λ x b q k. search (rules, tests))) c.loop-word.yielded _ c.loop-word.yielded_by _ _ c.in-None.is c.next.ensures.steps in
    all_found _ _ _ _ t.1 c.loop-word.invariant
