use Rattle.std.proofs.Common.{◌≡◌, ◌++◌, take}
use Rattle.std.specs.List.{flat_map}
use Rattle.jm_print.specs.Coenables.{set_text}
use Rattle.jm_print.proofs.coenable.sets.Given as goal

abbrev pub invariant-loop-mask : goal.invariant-loop-mask
invariant-loop-mask l = l.page ≡ l.initial.page ++ flat_map (set_text l.table.parameters) (take l.mask-index l.family)
