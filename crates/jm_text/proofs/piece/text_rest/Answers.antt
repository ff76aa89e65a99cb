use Rattle.std.proofs.Common.{◌≡◌, ◌+◌, length, drop, Some, sym, ap, ◌∙◌, eq-eqb, arith}
use Rattle.std.proofs.lemmas.Bool.{ne_eqb}
use Rattle.std.proofs.lemmas.Slice.{between_to_end}
use Rattle.jm_text.specs.Pieces.{plus, text_rest, escapes}
use Rattle.jm_text.proofs.Scans.{plus-plus, plus-zero, at_quote, at_feed, at_plain, at_escape}
use Rattle.jm_text.proofs.piece.text_rest.Goals as goal
use Rattle.jm_text.proofs.piece.text_rest.Goals.{then-escapes, else-escapes}

pub loop-i-init : goal.loop-i-init
loop-i-init c = record { in_range = omega arith; whole = plus-zero _ }

pub returns-then-b-quote-clause-value : goal.returns-then-b-quote-clause-value
returns-then-b-quote-clause-value c =
    let one : 1 + c.loop-i.i ≡ c.loop-i.i + 1 = omega arith in
    sym (ap Some one) ∙ sym (ap (plus c.loop-i.i) (at_quote c.args.quote c.args.bytes.now c.loop-i.i c.loop-i-test.true (eq-eqb _ _ c.if-b-quote.true))) ∙ c.loop-i.invariant.whole

pub returns-then-b-eq10-clause-value : goal.returns-then-b-eq10-clause-value
returns-then-b-eq10-clause-value c =
    sym (ap (plus c.loop-i.i) (at_feed c.args.quote c.args.bytes.now c.loop-i.i c.loop-i-test.true (ne_eqb _ _ c.if-b-quote.false) (eq-eqb _ 10 c.if-b-eq10.true))) ∙ c.loop-i.invariant.whole

pub loop-i-preserved : goal.loop-i-preserved
loop-i-preserved c =
    let q = c.args.quote in
    let bytes = c.args.bytes.now in
    let i = c.loop-i.i in
    let rest = between_to_end bytes i (length bytes) (omega arith) in
    let not_quote = ne_eqb _ _ c.if-b-quote.false in
    let not_feed = ne_eqb _ 10 c.if-b-eq10.false in
    elim c.if-escapes.branch [
      | then-escapes w ↦
          let escaped = ap escapes (sym rest) ∙ sym w.if-escapes.ensures.value in
          record {
            in_range = omega (arith, c.escapes.ensures.fits);
            whole = ap (λ n. plus (i + n) (text_rest q (drop (i + n) bytes))) w.i-is ∙ sym (plus-plus i 2 _) ∙ ap (plus i) (sym (at_escape q bytes i c.loop-i-test.true not_quote not_feed escaped)) ∙ c.loop-i.invariant.whole;
          }
      | else-escapes w ↦
          let plain = ap escapes (sym rest) ∙ sym w.if-escapes.ensures.value in
          record {
            in_range = omega arith;
            whole = ap (λ n. plus (i + n) (text_rest q (drop (i + n) bytes))) w.i-is ∙ sym (plus-plus i 1 _) ∙ ap (plus i) (sym (at_plain q bytes i c.loop-i-test.true not_quote not_feed plain)) ∙ c.loop-i.invariant.whole;
          }
    ]
