use Rattle.std.proofs.Common.{◌≡◌, ◌++◌, take, drop, map}
use Rattle.jm_audit.specs.Slices.{advanced}
use Rattle.jm_audit.proofs.growth.advance.Given as goal

abbrev pub invariant-loop-instance : goal.invariant-loop-instance
invariant-loop-instance l =
    l.instances ≡ map (advanced l.letter.0 l.binding) (take l.instance-index l.initial.instances) ++ drop l.instance-index l.initial.instances
