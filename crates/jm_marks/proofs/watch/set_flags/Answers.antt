use Rattle.std.proofs.Common.{◌≡◌, ◌+◌, ◌<◌, length, ◌∙◌, arith}
use Rattle.std.proofs.Math.ListN.{length-set}
use Rattle.std.specs.Int.{w64, trailing_zeros}
use Rattle.jm_objects.proofs.WordLemmas.{first_left, fewer_left}
use Rattle.jm_marks.proofs.FlagLemmas.{elsewhere, bits_set, all_set, none_left}
use Rattle.jm_marks.proofs.watch.set_flags.Goals as goal

pub loop-left-smaller : goal.loop-left-smaller
loop-left-smaller c =
    let (low, one) = first_left c.loop-left.left c.loop-left-test.true (omega (arith, c.loop-left.auto.left-fits)) in
    fewer_left _ _ low one

pub loop-left-preserved : goal.loop-left-preserved
loop-left-preserved c =
    let inv = c.loop-left.invariant in
    let (low, one) = first_left c.loop-left.left c.loop-left-test.true (omega (arith, c.loop-left.auto.left-fits)) in
    let there : c.args.first + trailing_zeros w64 c.loop-left.left < length c.loop-left.flags.items = omega (arith, low, inv.size, c.requires) in
    record {
      size = length-set _ _ _ ∙ inv.size;
      bits = bits_set _ _ _ _ _ there inv.bits;
      all = all_set _ _ _ _ _ _ there low inv.all;
      before = λ k less. elsewhere c.loop-left.flags.items c.args.first c.args.word (trailing_zeros w64 c.loop-left.left) k (λ e. absurd (omega (arith, e, less))) ∙ inv.before k less;
      behind = λ k more. elsewhere c.loop-left.flags.items c.args.first c.args.word (trailing_zeros w64 c.loop-left.left) k (λ e. absurd (omega (arith, e, more, low))) ∙ inv.behind k more;
    }

pub returns-clause-all : goal.returns-clause-all
returns-clause-all c =
    let none : c.loop-left.left ≡ 0 = omega arith in
    λ k low is. none_left _ _ _ (rw none at (c.loop-left.invariant.all k low is))
