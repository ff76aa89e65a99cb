use Rattle.std.proofs.Common.{◌≡◌, take}
use Rattle.jm_runner.proofs.run.queues_of.Given as goal

abbrev pub invariant-loop-script : goal.invariant-loop-script
invariant-loop-script l = l.queues.items ≡ take l.script-index l.scripts
