use Rattle.jm_text.specs.declared.token.TokenKind.TheVariants.{Word}
use Rattle.jm_spec.specs.declared.property.HandlerText.{HandlerText}
use Rattle.jm_inputs.proofs.BlockLemmas.{BlocksSay-more}
use Rattle.jm_inputs.proofs.specification.add_texts.Goals as goal

pub loop-handler-preserved : goal.loop-handler-preserved
loop-handler-preserved c = λ before said.
    let none : HandlerText = record { category = record { kind = Word; start = 0; end = 0; line = 0 }; first = 0; last = 0 } in
    BlocksSay-more _ _ _ before _ _ none _ _ _ _ c.loop-handler-test.true (c.loop-handler.invariant before said) c.range_of-block.ensures c.in_ok-read_handler.ensures c.in_ok-push.ensures.items
