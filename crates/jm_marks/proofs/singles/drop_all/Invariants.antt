use Rattle.std.proofs.Common.{◌≡◌, ℕ, ◌/◌, ◌<◌, ◌≤◌, length, get_or}
use Rattle.jm_marks.specs.Singles.{AreGone, AreDropped}
use Rattle.jm_marks.proofs.singles.drop_all.Given as goal

abbrev pub invariant-loop-index : goal.invariant-loop-index
invariant-loop-index l = record {
  gone : AreGone l.bytes.items l.gone.items;
  size : length l.bytes.items ≡ length l.initial.bytes.items;
  words : length l.gone.items ≡ length l.initial.gone.items;
  done : (o : ℕ) → o / 64 < l.index → AreDropped l.objects l.initial.bytes.items l.bytes.items o;
  rest : (o : ℕ) → l.index ≤ o / 64 → get_or l.bytes.items o 0 ≡ get_or l.initial.bytes.items o 0;
}
