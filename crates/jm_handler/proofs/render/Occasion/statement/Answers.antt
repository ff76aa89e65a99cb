use Rattle.std.proofs.Common.{◌≡◌, ◌++◌, length, take, ap, ◌∙◌, arith}
use Rattle.std.proofs.lemmas.List.{take_all}
use Rattle.jm_handler.specs.Broken.{broken}
use Rattle.jm_handler.specs.Renderings.{statement_text}
use Rattle.jm_handler.proofs.RenderLemmas.{written_lines}
use Rattle.jm_handler.proofs.render.Occasion.statement.Goals as goal

pub returns : goal.returns
returns c =
    let start = c.in_ok-extend_from_slice.ensures.items in
    let whole : take c.loop-term.term-index c.args.statement.now ≡ c.args.statement.now = take_all _ _ (omega (arith, ap length c.terms-term-items.ensures, c.loop-term-test.false)) in
    let terms = c.loop-term.invariant ∙ ap (λ t. c.extend_from_slice.new.self.items ++ broken (statement_text c.args.self.now t)) whole in
    c.in_ok-push.ensures.items ∙ written_lines _ _ _ (statement_text c.args.self.now c.args.statement.now) start terms
