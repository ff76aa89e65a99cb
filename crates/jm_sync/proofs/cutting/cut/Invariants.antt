use Rattle.std.proofs.Common.{◌≤◌, ◌+◌, length}
use Rattle.jm_lines.specs.Lines.{lines_left, bytes_left}
use Rattle.jm_sync.proofs.CutLemmas.{HasCut}
use Rattle.jm_sync.proofs.cutting.cut.Given as goal

abbrev pub invariant-loop-left : goal.invariant-loop-left
invariant-loop-left l = record {
  few : l.number + bytes_left l.left ≤ length l.bytes + 1;
  cut : HasCut l.fn.names l.bytes l.cut.rest.items l.cut.lines.items l.names l.number (lines_left l.left);
}

abbrev pub decreases-loop-left : goal.decreases-loop-left
decreases-loop-left l = bytes_left l.left
