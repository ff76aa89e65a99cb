use Rattle.std.proofs.Common.{◌≡◌, ◌-◌, ◌≤◌, length, drop}
use Rattle.jm_text.specs.Pieces.{plus, text_rest}
use Rattle.jm_text.proofs.piece.text_rest.Given as goal

abbrev pub invariant-loop-i : goal.invariant-loop-i
invariant-loop-i l = record { in_range : l.i ≤ length l.bytes; whole : plus l.i (text_rest l.quote (drop l.i l.bytes)) ≡ text_rest l.quote l.bytes }

abbrev pub decreases-loop-i : goal.decreases-loop-i
decreases-loop-i l = length l.bytes - l.i
