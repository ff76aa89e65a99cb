use Rattle.std.proofs.Common.{◌≡◌, drop}
use Rattle.jm_machine.specs.Handlers.{category_fault}
use Rattle.jm_machine.proofs.handlers.check_categories.Given as goal

abbrev pub invariant-loop-handler : goal.invariant-loop-handler
invariant-loop-handler l = category_fault l.bytes l.categories (drop l.handler-index l.handlers) ≡ category_fault l.bytes l.categories l.handlers
