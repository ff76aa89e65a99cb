use Rattle.std.proofs.Common.{Ok, sym, ◌∙◌, ap, arith}
use Rattle.std.proofs.lemmas.List.{drop_all}
use Rattle.jm_events.specs.Events.{event_names}
use Rattle.jm_ere.proofs.ReadLemmas.{never_empty}
use Rattle.jm_ere.proofs.reads.expression_of.Goals as goal

pub unreachable-requires : goal.unreachable-requires
unreachable-requires c =
    let all = drop_all c.loop-node.node-index c.args.nodes.now (omega (arith, c.loop-node-test.false)) in
    let done = sym (rw (all, c.new-stack.ensures) at c.loop-node.invariant) in
    never_empty c.args.bytes.now (event_names c.args.table.now) c.args.nodes.now c.requires (done ∙ ap (λ s. Ok s) c.in-None.ensures.0)

pub returns-clause-ok : goal.returns-clause-ok
returns-clause-ok c =
    let all = drop_all c.loop-node.node-index c.args.nodes.now (omega (arith, c.loop-node-test.false)) in
    let done = sym (rw (all, c.new-stack.ensures) at c.loop-node.invariant) in
    (c.pop.new.self, done ∙ ap (λ s. Ok s) c.in-Some.ensures)
