use Rattle.std.proofs.Common.{ℕ, List, ◌++◌, inl, inr, Contains, sym, subst, arith}
use Rattle.std.proofs.lemmas.List.Elements.{Contains-append_left, Contains-append_right, Contains-append_cases}
use Rattle.std.specs.List.Sorted.{IsStrictlySortedBy}
use Rattle.std.specs.Ordering.{nat_cmp}
use Rattle.jm_coenable.proofs.RiseLemmas.{none_rises, rises_more, members_more}
use Rattle.jm_machine.proofs.union.union_of.Goals as goal

pub loop-number-init : goal.loop-number-init
loop-number-init c = record {
  rising = subst (λ (s : List ℕ). IsStrictlySortedBy nat_cmp s) (sym c.new-masks.ensures.items) none_rises;
  members = λ m. (
    λ h. absurd (omega (arith, (subst (λ (s : List ℕ). Contains s m) c.new-masks.ensures.items h).1)),
    λ h. absurd (omega (arith, h.0)),
  );
}

pub loop-number-preserved : goal.loop-number-preserved
loop-number-preserved c =
    let both = c.args.one.now ++ c.args.other.now in
    record {
      rising = rises_more both c.loop-number.masks.items c.push_if.new.masks.items c.loop-number.number c.is_in_either-wanted.result c.loop-number.invariant.rising
          c.loop-number.invariant.members c.in_ok-push_if.ensures.pushed c.in_ok-push_if.ensures.kept;
      members = members_more both c.loop-number.masks.items c.push_if.new.masks.items c.loop-number.number c.is_in_either-wanted.result c.loop-number.invariant.members (
        λ yes. elim (c.is_in_either-wanted.ensures.0 yes) [
          | inl here ↦ Contains-append_left c.args.one.now c.args.other.now c.loop-number.number here
          | inr there ↦ Contains-append_right c.args.one.now c.args.other.now c.loop-number.number there
        ],
        λ h. c.is_in_either-wanted.ensures.1 (Contains-append_cases c.args.one.now c.args.other.now c.loop-number.number h),
      ) c.in_ok-push_if.ensures.pushed c.in_ok-push_if.ensures.kept;
    }

pub returns-clause-exact : goal.returns-clause-exact
returns-clause-exact c = λ mask few. (
  λ h. Contains-append_cases c.args.one.now c.args.other.now mask ((c.loop-number.invariant.members mask).0 h).1,
  λ h. (c.loop-number.invariant.members mask).1 (
    omega (arith, few, c.loop-number-test.false),
    elim h [
      | inl here ↦ Contains-append_left c.args.one.now c.args.other.now mask here
      | inr there ↦ Contains-append_right c.args.one.now c.args.other.now mask there
    ],
  ),
)

pub returns-clause-bounded : goal.returns-clause-bounded
returns-clause-bounded c = λ mask h. omega (arith, ((c.loop-number.invariant.members mask).0 h).0, c.loop-number.auto)
