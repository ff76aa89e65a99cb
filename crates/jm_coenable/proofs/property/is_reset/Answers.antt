use Rattle.std.proofs.Common.{ℕ, ◌<◌, length, sym, ◌∙◌, subst}
use Rattle.jm_coenable.proofs.ResetLemmas.{reset_here, reset_later}
use Rattle.jm_coenable.proofs.property.is_reset.Goals as goal

pub returns-then-resets : goal.returns-then-resets
returns-then-resets c =
    let handler = c.loop-handler.handler in
    let less : handler < length c.args.goal.now.groups = subst (λ (n : ℕ). handler < n) c.handlers-handler-end.ensures.value c.loop-handler-test.true in
    sym (c.loop-handler.invariant ∙ reset_here c.args.table.now c.args.goal.now c.args.state handler 0 less c.resets.result c.resets.ensures c.if-resets.true)

pub loop-handler-preserved : goal.loop-handler-preserved
loop-handler-preserved c =
    let handler = c.loop-handler.handler in
    let less : handler < length c.args.goal.now.groups = subst (λ (n : ℕ). handler < n) c.handlers-handler-end.ensures.value c.loop-handler-test.true in
    c.loop-handler.invariant ∙ reset_later c.args.table.now c.args.goal.now c.args.state handler 0 less c.resets.result c.resets.ensures c.if-resets.false
