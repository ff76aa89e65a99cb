use Rattle.std.proofs.Common.{◌≡◌, ◌+◌, ◌≤◌, length, drop}
use Rattle.jm_audit.specs.Fronts.{agreeing}
use Rattle.jm_audit.proofs.compare.agreeing_lines.Given as goal

abbrev pub invariant-loop-i : goal.invariant-loop-i
invariant-loop-i l = record { count : l.lines + agreeing (drop l.i l.one) (drop l.i l.other) ≡ agreeing l.one l.other; few : l.lines ≤ l.i; reach : l.i ≤ length l.one }
