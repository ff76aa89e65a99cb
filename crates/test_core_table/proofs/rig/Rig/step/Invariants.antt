use Rattle.std.proofs.Common.{◌<◌, All, take}
use Rattle.test_core_table.proofs.rig.Rig.step.Given as goal

abbrev pub invariant-loop-object : goal.invariant-loop-object
invariant-loop-object l = All (λ o. o < 8) (take l.object-index l.objects)
