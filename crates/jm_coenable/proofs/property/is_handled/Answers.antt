use borrow.Author.Count.{below_more}
use Rattle.std.proofs.Common.{ℕ, ◌≡◌, inl, inr, Some, slice_get, sym, subst, ◌∙◌, arith}
use Rattle.std.proofs.lemmas.Bool.{false≢true}
use Rattle.std.proofs.lemmas.Option.{slice_get_cases}
use Rattle.jm_table.specs.Tables.{IsInGroup}
use Rattle.jm_coenable.proofs.property.is_handled.Goals as goal

pub loop-handler-init : goal.loop-handler-init
loop-handler-init c = λ k lt. absurd (omega (arith, lt))

pub loop-handler-preserved : goal.loop-handler-preserved
loop-handler-preserved c =
    below_more (λ (k : ℕ). (group : ℕ) → slice_get c.args.goal.now.groups k ≡ Some group → IsInGroup c.args.table.now c.args.state group → ⊥)
    c.loop-handler.handler c.loop-handler.invariant
    (λ group at inside.
    let e : group ≡ c.group.result = cc (at, c.group.ensures) in
    false≢true (sym c.if-in_group.false ∙ c.in_group.ensures.1 (subst (λ (x : ℕ). IsInGroup c.args.table.now c.args.state x) e inside)))

pub returns : goal.returns
returns c = (
  λ h. absurd (false≢true h),
  λ h. elim (slice_get_cases c.args.goal.now.groups h.0).1 [
    | inl there ↦ absurd (c.loop-handler.invariant h.0 (omega (arith, there.1, c.loop-handler-test.false, c.handlers-handler-end.ensures.value)) h.1 h.2 h.3)
    | inr past ↦ cc (past.1, h.2)
  ],
)
