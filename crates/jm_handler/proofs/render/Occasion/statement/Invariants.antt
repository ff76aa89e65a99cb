use Rattle.std.proofs.Common.{◌≡◌, ◌++◌, take}
use Rattle.jm_handler.specs.Broken.{broken}
use Rattle.jm_handler.specs.Renderings.{statement_text}
use Rattle.jm_handler.proofs.render.Occasion.statement.Given as goal

abbrev pub invariant-loop-term : goal.invariant-loop-term
invariant-loop-term l = l.page.items ≡ l.initial.page.items ++ broken (statement_text l.self (take l.term-index l.statement))
