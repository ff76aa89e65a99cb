use Rattle.std.proofs.Common.{◌≡◌, drop}
use Rattle.jm_machine.specs.Handlers.{reset_in}
use Rattle.jm_machine.proofs.handlers.check_block_resets.Given as goal

abbrev pub invariant-loop-token : goal.invariant-loop-token
invariant-loop-token l = reset_in l.bytes (drop l.token-index l.block) ≡ reset_in l.bytes l.block
