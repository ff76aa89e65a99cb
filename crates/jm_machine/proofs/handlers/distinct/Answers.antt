use Rattle.std.proofs.Common.{sym, ◌∙◌}
use Rattle.jm_machine.proofs.HandlerLemmas.{duplicate_here, new_here, names_more}
use Rattle.jm_machine.proofs.handlers.distinct.Goals as goal

pub returns-then-is_some-clause-checked : goal.returns-then-is_some-clause-checked
returns-then-is_some-clause-checked c =
    rw c.into.ensures (sym c.loop-handler.invariant.rest
    ∙ duplicate_here c.args.bytes.now c.loop-handler.names c.args.handlers.now c.loop-handler.handler-index _ c.name_of-name.result.now c.find.result c.loop-handler-test.true c.name_of-name.ensures c.find.ensures.value (sym c.if-is_some.ensures))

pub loop-handler-preserved : goal.loop-handler-preserved
loop-handler-preserved c =
    let none = sym c.if-is_some.ensures in
    record {
      named = rw c.in_ok-add.ensures.ok (names_more c.args.bytes.now c.loop-handler.names c.args.handlers.now c.loop-handler.handler-index _ c.name_of-name.result.now c.find.result c.loop-handler-test.true c.name_of-name.ensures c.find.ensures.value none c.loop-handler.invariant.named);
      rest = rw c.in_ok-add.ensures.ok (new_here c.args.bytes.now c.loop-handler.names c.args.handlers.now c.loop-handler.handler-index _ c.name_of-name.result.now c.find.result c.loop-handler-test.true c.name_of-name.ensures c.find.ensures.value none ∙ c.loop-handler.invariant.rest);
    }
