use Rattle.std.proofs.Common.{sym, ◌∙◌}
use Rattle.jm_machine.proofs.HandlerLemmas.{groups_more, has_number}
use Rattle.jm_machine.proofs.handlers.groups_of.Goals as goal

pub loop-handler-preserved : goal.loop-handler-preserved
loop-handler-preserved c =
    rw c.in_ok-push.ensures.items
    (groups_more c.args.categories.now c.args.handlers.now c.loop-handler.handler c.loop-handler.groups.items c.name.result.now c.in-Some.category c.loop-handler.invariant c.name.ensures c.in-Some.ensures.value)

pub unreachable-requires : goal.unreachable-requires
unreachable-requires c =
    has_number c.args.categories.now c.args.handlers.now c.loop-handler.handler c.name.result.now c.requires.known c.name.ensures (sym c.find.ensures.value ∙ c.in_default.is)
