use Rattle.std.proofs.Common.{◌∷◌, map, refl, arith}
use Rattle.jm_machine.specs.CompiledProperties.{CompiledProperty}
use Rattle.jm_machine.proofs.NamingLemmas.{distinct_more, many_handlers, name_more, name_room, name_new}
use Rattle.jm_machine.proofs.names.numbered_names.Goals as goal

pub add_numbered-requires-clause-distinct : goal.add_numbered-requires-clause-distinct
add_numbered-requires-clause-distinct c =
    let parts = c.args.first.now ∷ c.args.others.now in
    let all = map (λ (part : CompiledProperty). part.definition.handlers) parts in
    rw (c.new-names.ensures, c.handlers.ensures)
    (distinct_more all 0 c.args.first.now.definition.handlers (omega (arith, c.requires.properties, many_handlers parts)) c.requires.distinct refl)

pub add_numbered-requires-in-loop-number-clause-bounded : goal.add_numbered-requires-in-loop-number-clause-bounded
add_numbered-requires-in-loop-number-clause-bounded c =
    name_room c.args.first.now c.args.others.now c.loop-number.number c.index-others-number.result c.loop-number.names c.handlers-in-loop-number.result.now (omega (arith, c.loop-number-test.true)) c.index-others-number.is c.handlers-in-loop-number.ensures c.loop-number.invariant
    c.requires.handlers

pub add_numbered-requires-in-loop-number-clause-distinct : goal.add_numbered-requires-in-loop-number-clause-distinct
add_numbered-requires-in-loop-number-clause-distinct c =
    name_new c.args.first.now c.args.others.now c.loop-number.number c.index-others-number.result c.loop-number.names c.handlers-in-loop-number.result.now (omega (arith, c.loop-number-test.true)) c.index-others-number.is c.handlers-in-loop-number.ensures c.loop-number.invariant
    c.requires.properties c.requires.distinct

pub loop-number-preserved : goal.loop-number-preserved
loop-number-preserved c =
    name_more c.args.first.now c.args.others.now c.loop-number.number c.index-others-number.result c.loop-number.names c.handlers-in-loop-number.result.now (omega (arith, c.loop-number-test.true)) c.index-others-number.is c.handlers-in-loop-number.ensures c.loop-number.invariant
    c.add_numbered-in-loop-number.new.names c.in_ok-add_numbered-2.ensures
