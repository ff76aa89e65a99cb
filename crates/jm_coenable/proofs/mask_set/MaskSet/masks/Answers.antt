use Rattle.std.proofs.Common.{ℕ, List, Contains, sym, subst, arith}
use Rattle.std.specs.List.Sorted.{IsStrictlySortedBy}
use Rattle.std.specs.Ordering.{nat_cmp}
use Rattle.jm_coenable.proofs.RiseLemmas.{none_rises, rises_more, members_more}
use Rattle.jm_coenable.proofs.mask_set.MaskSet.masks.Goals as goal

pub loop-number-init : goal.loop-number-init
loop-number-init c = record {
  rising = subst (λ (s : List ℕ). IsStrictlySortedBy nat_cmp s) (sym c.new-masks.ensures.items) none_rises;
  members = λ m. (
    λ h. absurd (omega (arith, (subst (λ (s : List ℕ). Contains s m) c.new-masks.ensures.items h).1)),
    λ h. absurd (omega (arith, h.0)),
  );
}

pub loop-number-preserved : goal.loop-number-preserved
loop-number-preserved c = record {
  rising = rises_more c.args.self.now c.loop-number.masks.items c.push_if.new.masks.items c.loop-number.number c.contains-wanted.result c.loop-number.invariant.rising
      c.loop-number.invariant.members c.in_ok-push_if.ensures.pushed c.in_ok-push_if.ensures.kept;
  members = members_more c.args.self.now c.loop-number.masks.items c.push_if.new.masks.items c.loop-number.number c.contains-wanted.result c.loop-number.invariant.members
      c.contains-wanted.ensures.member c.in_ok-push_if.ensures.pushed c.in_ok-push_if.ensures.kept;
}

pub returns-clause-exact : goal.returns-clause-exact
returns-clause-exact c = λ mask few. (
  λ h. ((c.loop-number.invariant.members mask).0 h).1,
  λ h. (c.loop-number.invariant.members mask).1 (omega (arith, few, c.loop-number-test.false), h),
)

pub returns-clause-bounded : goal.returns-clause-bounded
returns-clause-bounded c = λ mask h. omega (arith, ((c.loop-number.invariant.members mask).0 h).0, c.loop-number.auto)
