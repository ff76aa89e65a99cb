use Rattle.std.proofs.Common.{◌≡◌}
use Rattle.jm_top.proofs.run.queues_of.Given as goal

abbrev pub invariant-loop-script : goal.invariant-loop-script
invariant-loop-script l = l.queues.items ≡ l.yielded
