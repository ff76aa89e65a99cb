use Rattle.std.proofs.Common.{◌≡◌, ◌+◌, ◌*◌, ◌%◌, inl, inr, refl, sym, ◌∙◌, arith}
use Rattle.std.specs.Int.{bit_at}
use Rattle.std.proofs.lemmas.Bool.{cases_eq}
use Rattle.std.proofs.lemmas.Nat.Bits.{bit_at-lt}
use Rattle.jm_objects.proofs.WordLemmas.{first_left, fewer_left}
use Rattle.jm_marks.proofs.ClearLemmas.{underway_cleared, underway_passed, underway_end}
use Rattle.jm_marks.proofs.singles.drop_among.Goals as goal
use Rattle.jm_marks.proofs.singles.drop_among.Goals.{then-is_gone, else-is_gone}

pub loop-left-init : goal.loop-left-init
loop-left-init c = record {
  gone = c.requires.gone;
  size = refl;
  words = refl;
  here = λ k low. elim (cases_eq (bit_at c.args.left k) 0) [
    | inl none ↦ inr (c.requires.left k low none)
    | inr isnt ↦ inl (omega (arith, isnt, bit_at-lt c.args.left k), refl)
  ];
  elsewhere = λ _ _. refl;
}

pub overflow_mul-object : goal.overflow_mul-object
overflow_mul-object c = omega (arith, c.requires.in_range, c.requires.gone.few)

pub overflow_add-object : goal.overflow_add-object
overflow_add-object c =
    let (low, one) = first_left c.loop-left.left c.loop-left-test.true (omega (arith, c.loop-left.auto.left-fits)) in
    omega (arith, c.requires.in_range, c.requires.gone.few, low)

pub loop-left-smaller : goal.loop-left-smaller
loop-left-smaller c =
    let (low, one) = first_left c.loop-left.left c.loop-left-test.true (omega (arith, c.loop-left.auto.left-fits)) in
    fewer_left _ _ low one

pub loop-left-preserved : goal.loop-left-preserved
loop-left-preserved c =
    let inv = c.loop-left.invariant in
    let (low, one) = first_left c.loop-left.left c.loop-left-test.true (omega (arith, c.loop-left.auto.left-fits)) in
    elim c.if-is_gone.branch [
      | then-is_gone w ↦
          let now = w.clear.ensures in
          rw (w.bytes-is, w.gone-is)
          record {
            gone = now.gone;
            size = now.size ∙ inv.size;
            words = now.words ∙ inv.words;
            here = λ k few. underway_cleared _ _ _ _ _ _ _ k low few (sym c.is_gone.ensures ∙ w.if-is_gone.true) now.at_key now.elsewhere (inv.here k few);
            elsewhere = λ o far. now.elsewhere o (λ e. far (omega (arith, e, low))) ∙ inv.elsewhere o far;
          }
      | else-is_gone w ↦
          rw (w.bytes-is, w.gone-is)
          record {
            gone = inv.gone;
            size = inv.size;
            words = inv.words;
            here = λ k few. underway_passed _ _ _ _ _ _ k low few (sym c.is_gone.ensures ∙ w.if-is_gone.false) (inv.here k few);
            elsewhere = inv.elsewhere;
          }
    ]

pub returns-clause-dropped : goal.returns-clause-dropped
returns-clause-dropped c =
    let none : c.loop-left.left ≡ 0 = omega arith in
    λ o near.
    let at : c.args.index * 64 + o % 64 ≡ o = omega (arith, near) in
    underway_end _ _ _ _ (o % 64) o none (rw at at (c.loop-left.invariant.here (o % 64) (omega arith)))
