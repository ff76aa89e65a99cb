use Rattle.std.proofs.Common.{◌≡◌, take}
use Rattle.jm_script.proofs.script.Script.whole.Given as goal

abbrev pub invariant-loop-place : goal.invariant-loop-place
invariant-loop-place l = l.lines.items ≡ take l.place l.compact
