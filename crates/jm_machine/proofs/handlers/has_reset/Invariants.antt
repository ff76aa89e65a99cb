use Rattle.std.proofs.Common.{◌≡◌, drop}
use Rattle.jm_machine.specs.Handlers.{has_reset}
use Rattle.jm_machine.proofs.handlers.has_reset.Given as goal

abbrev pub invariant-loop-token : goal.invariant-loop-token
invariant-loop-token l = has_reset l.bytes (drop l.token-index l.block) ≡ has_reset l.bytes l.block
