use Rattle.std.proofs.Common.{◌≡◌, drop}
use Rattle.jm_machine.specs.Handlers.{reset_fault}
use Rattle.jm_machine.proofs.handlers.check_resets.Given as goal

abbrev pub invariant-loop-handler : goal.invariant-loop-handler
invariant-loop-handler l = reset_fault l.bytes l.tokens (drop l.handler-index l.handlers) ≡ reset_fault l.bytes l.tokens l.handlers
