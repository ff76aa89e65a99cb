use Rattle.std.proofs.Common.{◌++◌, ap, sym, ◌∙◌}
use Rattle.jm_handler.proofs.BreakLemmas.{broken_none}
use Rattle.jm_handler.proofs.page.text.Goals as goal

pub returns-then-not-contains : goal.returns-then-not-contains
returns-then-not-contains c =
    c.in_ok-extend_from_slice.ensures.items
    ∙ ap (λ t. c.args.page.now.items ++ t) (sym (broken_none c.args.text.now (sym c.contains.ensures.value ∙ c.if-not-contains.true)))
