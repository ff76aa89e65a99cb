use Rattle.std.proofs.Common.{◌≡◌, ◌≢◌, ℕ, ◌+◌, ◌*◌, ◌/◌, ◌<◌, length, get_or}
use Rattle.std.specs.Int.{bit_at}
use Rattle.jm_marks.specs.Singles.{AreGone}
use Rattle.jm_marks.proofs.ClearLemmas.{IsUnderway}
use Rattle.jm_marks.proofs.singles.drop_among.Given as goal

abbrev pub invariant-loop-left : goal.invariant-loop-left
invariant-loop-left l = record {
  gone : AreGone l.bytes.items l.gone.items;
  size : length l.bytes.items ≡ length l.initial.bytes.items;
  words : length l.gone.items ≡ length l.initial.gone.items;
  here : (k : ℕ) → k < 64 → IsUnderway l.objects l.initial.bytes.items l.bytes.items (bit_at l.left k) (l.index * 64 + k);
  elsewhere : (o : ℕ) → o / 64 ≢ l.index → get_or l.bytes.items o 0 ≡ get_or l.initial.bytes.items o 0;
}

abbrev pub decreases-loop-left : goal.decreases-loop-left
decreases-loop-left l = l.left
