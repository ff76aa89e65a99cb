use Rattle.std.proofs.Common.{◌≡◌, take}
use Rattle.jm_audit.specs.Slices.{new_instances}
use Rattle.jm_audit.proofs.growth.new_instances.Given as goal

abbrev pub invariant-loop-instance : goal.invariant-loop-instance
invariant-loop-instance l = l.new.items ≡ new_instances l.seen l.binding (take l.instance-index l.instances)
