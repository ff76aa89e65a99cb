use Rattle.std.proofs.Common.{eq-eqb, map, get_or, take, drop, ◌-◌, refl, sym, ◌∙◌, arith}
use Rattle.jm_lines.proofs.LineLemmas.{last_words, last_place, line_words, line_place, found_more}
use Rattle.jm_lines.proofs.words.plain_words.Goals as goal

pub returns-then-next-text-clause-words : goal.returns-then-next-text-clause-words
returns-then-next-text-clause-words c =
    c.in_ok-add_word.ensures ∙ last_words c.args.text.now (map (λ w. w.now) c.loop-b.words.items) c.loop-b.at c.next_low-next.result.place (take (c.next_low-next.result.place - c.loop-b.at) (drop c.loop-b.at c.args.text.now)) c.loop-b.invariant.found c.next_low-next.ensures.place refl c.if-next-text.true

pub returns-then-next-text-clause-line : goal.returns-then-next-text-clause-line
returns-then-next-text-clause-line c =
    last_place c.args.text.now (map (λ w. w.now) c.loop-b.words.items) c.loop-b.at c.next_low-next.result.place (take (c.next_low-next.result.place - c.loop-b.at) (drop c.loop-b.at c.args.text.now)) c.loop-b.invariant.found c.next_low-next.ensures.place refl c.if-next-text.true

pub returns-then-b-eq10-clause-words : goal.returns-then-b-eq10-clause-words
returns-then-b-eq10-clause-words c =
    c.in_ok-add_word.ensures ∙ line_words c.args.text.now (map (λ w. w.now) c.loop-b.words.items) c.loop-b.at c.next_low-next.result.place (take (c.next_low-next.result.place - c.loop-b.at) (drop c.loop-b.at c.args.text.now)) c.loop-b.invariant.found c.next_low-next.ensures.place refl (omega arith) (get_or c.args.text.now c.next_low-next.result.place 0) refl (eq-eqb _ 10 c.if-b-eq10.true)

pub returns-then-b-eq10-clause-line : goal.returns-then-b-eq10-clause-line
returns-then-b-eq10-clause-line c =
    line_place c.args.text.now (map (λ w. w.now) c.loop-b.words.items) c.loop-b.at c.next_low-next.result.place (take (c.next_low-next.result.place - c.loop-b.at) (drop c.loop-b.at c.args.text.now)) c.loop-b.invariant.found c.next_low-next.ensures.place refl (omega arith) (get_or c.args.text.now c.next_low-next.result.place 0) refl (eq-eqb _ 10 c.if-b-eq10.true)

pub loop-b-preserved : goal.loop-b-preserved
loop-b-preserved c = record {
  found = rw c.in_ok-add_word.ensures (found_more c.args.text.now (map (λ w. w.now) c.loop-b.words.items) c.loop-b.at c.next_low-next.result.place (take (c.next_low-next.result.place - c.loop-b.at) (drop c.loop-b.at c.args.text.now)) c.loop-b.invariant.found c.next_low-next.ensures.place refl (omega arith) (get_or c.args.text.now c.next_low-next.result.place 0) refl (sym c.is_blank.ensures ∙ c.if-not-is_blank.false));
  told = c.next_low-next.ensures.behind (omega arith);
}
