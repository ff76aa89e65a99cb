use Rattle.std.proofs.Common.{◌≡◌, ◌++◌, ap, sym, ◌∙◌, arith}
use Rattle.std.specs.Prelude.{decimal}
use Rattle.jm_handler.specs.Broken.{broken}
use Rattle.jm_handler.proofs.BreakLemmas.{broken-decimal}
use Rattle.jm_handler.proofs.page.number.Goals as goal

pub returns : goal.returns
returns c =
    let whole : broken (decimal c.args.number) ≡ decimal c.args.number = broken-decimal c.args.number (omega arith) in
    c.in_ok-extend_from_slice.ensures.items ∙ ap (λ t. c.args.page.now.items ++ t) (c.as_bytes.ensures.value ∙ c.format.ensures.text ∙ sym whole)
