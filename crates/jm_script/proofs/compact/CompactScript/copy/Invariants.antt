use Rattle.std.proofs.Common.{◌≡◌, take}
use Rattle.jm_script.proofs.compact.CompactScript.copy.Given as goal

abbrev pub invariant-loop-block : goal.invariant-loop-block
invariant-loop-block l = l.full.items ≡ take l.block-index l.self-inside.full.items
