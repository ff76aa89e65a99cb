use Rattle.std.proofs.Common.{◌≡◌, drop}
use Rattle.jm_text.specs.Pieces.{plus, comment_rest}
use Rattle.jm_text.proofs.piece.comment_rest.Given as goal

abbrev pub invariant-loop-i : goal.invariant-loop-i
invariant-loop-i l = plus l.i (comment_rest (drop l.i l.bytes)) ≡ comment_rest l.bytes
