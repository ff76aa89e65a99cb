use Rattle.std.proofs.Common.{◌≡◌, ℕ, ◌+◌, ◌<◌, ◌≤◌, ◌⊎◌, length, get_or}
use Rattle.std.specs.Int.{bit_at}
use Rattle.jm_marks.specs.Watch.{IsSetBy}
use Rattle.jm_marks.proofs.watch.set_flags.Given as goal

abbrev pub invariant-loop-left : goal.invariant-loop-left
invariant-loop-left l = record {
  size : length l.flags.items ≡ length l.initial.flags.items;
  bits : (k : ℕ) → k < 64 → IsSetBy (get_or l.initial.flags.items (l.first + k) 0) (get_or l.flags.items (l.first + k) 0) (bit_at l.word k);
  all : (k : ℕ) → k < 64 → bit_at l.changed k ≡ 1 → (bit_at l.left k ≡ 1) ⊎ (get_or l.flags.items (l.first + k) 0 ≡ bit_at l.word k);
  before : (k : ℕ) → k < l.first → get_or l.flags.items k 0 ≡ get_or l.initial.flags.items k 0;
  behind : (k : ℕ) → l.first + 64 ≤ k → get_or l.flags.items k 0 ≡ get_or l.initial.flags.items k 0;
}

abbrev pub decreases-loop-left : goal.decreases-loop-left
decreases-loop-left l = l.left
