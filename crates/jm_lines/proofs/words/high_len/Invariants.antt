use Rattle.std.proofs.Common.{◌≡◌, ◌<◌, ℕ, false, get_or}
use Rattle.jm_lines.specs.Low.{is_low}
use Rattle.jm_lines.proofs.words.high_len.Given as goal

abbrev pub invariant-loop-i : goal.invariant-loop-i
invariant-loop-i l = (k : ℕ) → k < l.i → is_low (get_or l.text k 0) ≡ false
