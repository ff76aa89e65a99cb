use Rattle.std.proofs.Common.{◌≡◌, ◌++◌, length, take}
use Rattle.jm_history.proofs.history.add_copies.Given as goal

abbrev pub invariant-loop-i : goal.invariant-loop-i
invariant-loop-i l = record {
  counted : l.count ≡ length l.piece;
  so_far : l.entries.items ≡ l.initial.entries.items ++ take l.i l.piece;
}
