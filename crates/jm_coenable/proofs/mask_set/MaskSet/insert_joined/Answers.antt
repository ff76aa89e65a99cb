use Rattle.std.proofs.Common.{ℕ, List, inl, inr, Contains, sym, subst, arith}
use Rattle.jm_coenable.proofs.StartLemmas.{joined_more}
use Rattle.jm_coenable.proofs.mask_set.MaskSet.insert_joined.Goals as goal

pub loop-number-init : goal.loop-number-init
loop-number-init c = λ mask. (λ h. inl h, λ h. elim h [ inl b ↦ b | inr r ↦ absurd (omega (arith, r.1)) ])

pub loop-number-preserved : goal.loop-number-preserved
loop-number-preserved c =
    joined_more c.args.params c.args.rests.now c.args.self.now c.loop-number.self c.insert_if.new.self c.loop-number.number c.contains-wanted.result c.loop-number.invariant
    c.contains-wanted.ensures.member c.insert_if.ensures

pub returns : goal.returns
returns c = λ mask. (
  λ h. elim ((c.loop-number.invariant mask).0 h) [ inl b ↦ inl b | inr r ↦ inr (r.0, r.2, r.3) ],
  λ h. elim h [
    | inl b ↦ (c.loop-number.invariant mask).1 (inl b)
    | inr j ↦
        let few = c.rests.invariant j.0 (subst (λ (s : List ℕ). Contains s j.0) (sym c.rests.view_is) j.1) in
        (c.loop-number.invariant mask).1 (inr (j.0, omega (arith, few, c.loop-number-test.false), j.1, j.2))
  ],
)
