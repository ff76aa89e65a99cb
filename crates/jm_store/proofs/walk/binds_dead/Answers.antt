use Rattle.std.proofs.Common.{◌≡◌, ℕ, ◌<◌, ◌^◌, inl, inr, sym, ap, ◌∙◌, subst, arith}
use Rattle.std.specs.Int.{w32, bit_at, trailing_zeros}
use Rattle.std.proofs.lemmas.Bool.{cases_eq}
use Rattle.jm_model.specs.Bindings.{object_at}
use Rattle.jm_awake.proofs.CardLemmas.{first_left, none_left}
use Rattle.jm_store.proofs.WalkLemmas.{first_small}
use Rattle.jm_store.proofs.walk.binds_dead.Goals as goal

pub loop-left-init : goal.loop-left-init
loop-left-init c = record { small = c.ranges.params.fits; done = λ p o one off at. absurd (off one) }

pub is_dead_at-requires : goal.is_dead_at-requires
is_dead_at-requires c = first_small c.loop-left.left c.loop-left-test.true c.loop-left.invariant.small

pub without-left-requires : goal.without-left-requires
without-left-requires c = let low = first_small c.loop-left.left c.loop-left-test.true c.loop-left.invariant.small in omega (arith, low)

pub loop-left-smaller : goal.loop-left-smaller
loop-left-smaller c =
    let fits : c.loop-left.left < 2 ^ 32 = omega (arith, c.loop-left.invariant.small) in
    c.without-left.ensures.fewer (first_left c.loop-left.left c.loop-left-test.true fits).1

pub loop-left-preserved : goal.loop-left-preserved
loop-left-preserved c =
    let fits : c.loop-left.left < 2 ^ 32 = omega (arith, c.loop-left.invariant.small) in
    let fewer = c.without-left.ensures.fewer (first_left c.loop-left.left c.loop-left-test.true fits).1 in
    record {
      small = omega (arith, fewer, c.loop-left.invariant.small);
      done = λ q o one off at. elim (cases_eq q (trailing_zeros w32 c.loop-left.left)) [
        | inl same ↦ c.is_dead_at.ensures c.if-is_dead_at.false o (sym (ap (object_at c.args.binding.now) same) ∙ at)
        | inr other ↦ c.loop-left.invariant.done q o one (λ was. off (c.without-left.ensures.kept q other was)) at
      ];
    }

pub returns : goal.returns
returns c = λ same p o one at.
    let none : c.loop-left.left ≡ 0 = omega (arith, c.loop-left-test.false) in
    c.loop-left.invariant.done p o one (λ bit. none_left p (subst (λ (n : ℕ). bit_at n p ≡ 1) none bit)) at
