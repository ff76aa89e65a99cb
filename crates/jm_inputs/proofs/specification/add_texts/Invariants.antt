use Rattle.std.proofs.Common.{List, ◌++◌, take}
use Rattle.jm_spec.specs.declared.property.HandlerText.{HandlerText}
use Rattle.jm_inputs.specs.Specifications.{BlocksSay}
use Rattle.jm_inputs.proofs.specification.add_texts.Given as goal

abbrev pub invariant-loop-handler : goal.invariant-loop-handler
invariant-loop-handler l = (before : List HandlerText) → BlocksSay l.bytes l.tokens l.table.parameters before l.initial.texts.items
    → BlocksSay l.bytes l.tokens l.table.parameters (before ++ take l.handler-index l.handler-items) l.texts.items
