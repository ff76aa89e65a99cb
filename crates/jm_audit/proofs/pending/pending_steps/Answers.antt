use Rattle.std.proofs.Common.{◌++◌, [], map, ◌∙◌, ap, sym, subst}
use Rattle.jm_audit.specs.Pending.{pending_at, AreUnderway}
use Rattle.jm_audit.proofs.UnderwayLemmas.{underway_nil, pending_more, pending_whole}
use Rattle.jm_audit.proofs.pending.pending_steps.Goals as goal

pub loop-caller-init : goal.loop-caller-init
loop-caller-init c = subst (λ ps. AreUnderway [] [] ps) (sym c.new-pending.ensures.items) underway_nil

pub loop-caller-preserved : goal.loop-caller-preserved
loop-caller-preserved c =
    let k = c.loop-caller.caller in
    pending_more c.args.scripts.now c.args.number k c.index-scripts-caller.result c.loop-caller.pending.items _ c.loop-caller-test.true c.index-scripts-caller.is c.loop-caller.invariant
    (c.in_ok-add_steps.ensures ∙ ap (λ s. c.loop-caller.pending.items ++ map (pending_at k) s) (c.as_slice.ensures.value ∙ c.in_ok-steps.ensures.value))

pub returns : goal.returns
returns c = pending_whole c.args.scripts.now c.args.number c.loop-caller.caller c.loop-caller.pending.items c.loop-caller-test.false c.loop-caller.invariant
