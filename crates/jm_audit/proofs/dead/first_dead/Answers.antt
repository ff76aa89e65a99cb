use Rattle.std.proofs.Common.{◌≡◌, false, sym, ap, ◌∙◌, arith}
use Rattle.jm_model.specs.Bindings.{object_at}
use Rattle.jm_audit.specs.Flags.{is_flagged_at}
use Rattle.jm_audit.proofs.FlagLemmas.{first-found, first-passed, first-end, unflagged}
use Rattle.jm_audit.proofs.dead.first_dead.Goals as goal
use Rattle.jm_audit.proofs.dead.first_dead.Goals.{in-Some+else-is_dead, in_default}

pub returns-then-is_dead : goal.returns-then-is_dead
returns-then-is_dead c =
    sym (sym c.loop-p.invariant ∙ first-found c.args.flags.now c.args.binding.now c.loop-p.p c.in-Some.object (sym c.get.ensures ∙ c.in-Some.is) (sym c.is_dead.ensures ∙ c.if-is_dead.true))

pub loop-p-preserved : goal.loop-p-preserved
loop-p-preserved c =
    let flags = c.args.flags.now in
    let b = c.args.binding.now in
    let p = c.loop-p.p in
    let passed = λ (live : is_flagged_at flags (object_at b p) ≡ false). sym (first-passed flags b p (omega (arith, c.mask-mask.ensures.eight, c.loop-p-test.true)) live) ∙ c.loop-p.invariant in
    elim c.match-get.branch [
      | in-Some+else-is_dead w ↦ passed (ap (is_flagged_at flags) (sym c.get.ensures ∙ w.in-Some.is) ∙ sym w.is_dead.ensures ∙ w.if-is_dead.false)
      | in_default w ↦ passed (unflagged flags (object_at b p) (λ o at. w.in_default.not-Some o (c.get.ensures ∙ at)))
    ]

pub returns : goal.returns
returns c =
    sym (sym c.loop-p.invariant ∙ first-end c.args.flags.now c.args.binding.now c.loop-p.p (omega (arith, c.mask-mask.ensures.eight, c.loop-p-test.false)))
