use Rattle.std.proofs.Common.{◌≡◌, ◌+◌, ◌*◌, ◌/◌, ◌%◌, ◌<◌, inl, inr, length, get_or, refl, ◌∙◌, arith}
use Rattle.std.specs.Prelude.{bit_and}
use Rattle.std.specs.Int.{w64, bit_at, bit_not}
use Rattle.std.proofs.lemmas.Bool.{cases_eq, cases_lt}
use Rattle.std.proofs.lemmas.Nat.Bits.{bit_at-zero}
use Rattle.jm_marks.proofs.WatchLemmas.{other_default}
use Rattle.jm_marks.proofs.ClearLemmas.{unset_dropped, alive_past, past_dropped, dropped_since}
use Rattle.jm_marks.proofs.singles.drop_all.Goals as goal
use Rattle.jm_marks.proofs.singles.drop_all.Goals.{then-left-gt0, else-left-gt0}

pub loop-index-init : goal.loop-index-init
loop-index-init c = record {
  gone = c.requires;
  size = refl;
  words = refl;
  done = λ o low. absurd (omega (arith, low));
  rest = λ _ _. refl;
}

pub drop_among-requires-clause-left : goal.drop_among-requires-clause-left
drop_among-requires-clause-left c =
    let inv = c.loop-index.invariant in
    let at : c.loop-index.index < length c.loop-index.gone.items = omega (arith, c.loop-index-test.true, c.min-index-end.ensures, inv.words) in
    λ k low none. unset_dropped _ _ _ _ c.loop-index.index c.index.result.now k inv.gone (c.index.ensures ∙ other_default _ _ _ 0 at) (omega arith) low c.words-words.ensures.flags none

pub loop-index-preserved : goal.loop-index-preserved
loop-index-preserved c =
    let inv = c.loop-index.invariant in
    elim c.if-left-gt0.branch [
      | then-left-gt0 w ↦
          let now = w.drop_among.ensures in
          rw (w.bytes-is, w.gone-is)
          record {
            gone = now.gone;
            size = now.size ∙ inv.size;
            words = now.words ∙ inv.words;
            done = λ o low. elim (cases_eq (o / 64) c.loop-index.index) [
              | inl here ↦ dropped_since _ _ _ _ o (inv.rest o (omega (arith, here))) (now.dropped o here)
              | inr other ↦ now.elsewhere o other ∙ inv.done o (omega (arith, low, other))
            ];
            rest = λ o more. now.elsewhere o (λ e. absurd (omega (arith, e, more))) ∙ inv.rest o (omega (arith, more));
          }
      | else-left-gt0 w ↦
          let all_passed : bit_and (get_or c.words-words.result.now c.loop-index.index 0) (bit_not w64 c.index.result.now) ≡ 0 = omega (arith, w.if-left-gt0.false) in
          let at : c.loop-index.index < length c.loop-index.gone.items = omega (arith, c.loop-index-test.true, c.min-index-end.ensures, inv.words) in
          rw (w.bytes-is, w.gone-is)
          record {
            gone = inv.gone;
            size = inv.size;
            words = inv.words;
            done = λ o low. elim (cases_eq (o / 64) c.loop-index.index) [
              | inl here ↦
                  let place : c.loop-index.index * 64 + o % 64 ≡ o = omega (arith, here) in
                  let none : bit_at (bit_and (get_or c.words-words.result.now c.loop-index.index 0) (bit_not w64 c.index.result.now)) (o % 64) ≡ 0 = rw all_passed (bit_at-zero (o % 64)) in
                  dropped_since _ _ _ _ o (inv.rest o (omega (arith, here))) (rw place at (unset_dropped _ _ _ _ c.loop-index.index c.index.result.now (o % 64) inv.gone (c.index.ensures ∙ other_default _ _ _ 0 at) (omega arith) (omega arith) c.words-words.ensures.flags none))
              | inr other ↦ inv.done o (omega (arith, low, other))
            ];
            rest = λ o more. inv.rest o (omega (arith, more));
          }
    ]

pub returns-clause-each : goal.returns-clause-each
returns-clause-each c =
    let inv = c.loop-index.invariant in
    λ o. elim (cases_lt (o / 64) c.loop-index.index) [
      | inl low ↦ inv.done o low
      | inr past ↦ elim (cases_lt (o / 64) (length c.args.gone.now.items)) [
        | inl there ↦ alive_past _ c.words-words.result.now _ _ o c.words-words.ensures.room (omega (arith, past, there, c.loop-index-test.false, c.min-index-end.ensures, c.len.ensures)) (inv.rest o past)
        | inr far ↦ past_dropped _ _ _ o (omega (arith, far, inv.gone.room, inv.size, inv.words)) (inv.rest o past)
      ]
    ]
