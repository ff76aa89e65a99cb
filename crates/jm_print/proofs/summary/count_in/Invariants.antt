use Rattle.std.proofs.Common.{◌≡◌, length, take}
use Rattle.jm_print.specs.Summaries.{count_of}
use Rattle.jm_print.proofs.summary.count_in.Given as goal

abbrev pub invariant-loop-i : goal.invariant-loop-i
invariant-loop-i l = record {
  counted : l.entries ≡ length l.piece;
  so_far : l.count ≡ count_of l.what (take l.i l.piece);
}
