use Rattle.std.proofs.Common.{ℕ, ◌≡◌, ◌<◌, ◌≤◌, ◌+◌, ◌*◌, length, get_or}
use Rattle.jm_table.specs.Partitions.{IsKnown, AreGiven}
use Rattle.jm_table.proofs.partition.Partition.split.Given as goal

abbrev pub invariant-loop-state : goal.invariant-loop-state
invariant-loop-state l = record {
  given : AreGiven (length l.keys) l.keys l.numbers.items l.self.firsts.items;
  seen : (p : ℕ) → p < l.state → IsKnown l.keys l.numbers.items l.self.firsts.items (get_or l.keys p 0) (get_or l.self.classes.items p 0);
  prefix : (c : ℕ) → c < length l.fn.self.firsts.items → get_or l.self.firsts.items c 0 ≡ get_or l.fn.self.firsts.items c 0;
  grown : length l.fn.self.firsts.items ≤ length l.self.firsts.items;
  room : length l.self.firsts.items ≤ length l.fn.self.firsts.items + l.state;
  numbers : length l.numbers.items ≡ 2 * length l.fn.self.firsts.items;
  count : length l.self.classes.items ≡ length l.keys;
}

abbrev pub invariant-loop-number : goal.invariant-loop-number
invariant-loop-number l = record {
  count : length l.numbers.items ≡ l.number;
  each : (k : ℕ) → k < l.number → get_or l.numbers.items k 0 ≡ k;
}
