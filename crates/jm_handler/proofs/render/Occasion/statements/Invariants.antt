use Rattle.std.proofs.Common.{◌≡◌, ◌++◌, take}
use Rattle.jm_handler.specs.Renderings.{handler_text}
use Rattle.jm_handler.proofs.render.Occasion.statements.Given as goal

abbrev pub invariant-loop-statement : goal.invariant-loop-statement
invariant-loop-statement l = l.page.items ≡ l.initial.page.items ++ handler_text l.self (take l.statement-index l.statements)
