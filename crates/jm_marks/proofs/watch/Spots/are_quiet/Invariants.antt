use Rattle.std.proofs.Common.{ℕ, ◌<◌, ◌≤◌, get_or}
use Rattle.jm_marks.proofs.watch.Spots.are_quiet.Given as goal

abbrev pub invariant-loop-at : goal.invariant-loop-at
invariant-loop-at l = record {
  each : (k : ℕ) → l.place ≤ k → k < l.at → get_or l.self.flags (get_or l.self.spots k 0) 1 ≤ l.loud;
}
