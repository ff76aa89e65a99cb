use Rattle.std.proofs.Common.{◌≡◌, ◌++◌, take}
use Rattle.jm_script.specs.Blocks.{steps_in}
use Rattle.jm_script.proofs.compact.add_steps.Given as goal

abbrev pub invariant-loop-block : goal.invariant-loop-block
invariant-loop-block l = l.steps.items ≡ l.fn.steps.items ++ steps_in l.spec (take l.block l.full)
