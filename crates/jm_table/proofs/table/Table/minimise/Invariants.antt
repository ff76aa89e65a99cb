use Rattle.std.proofs.Common.{ℕ, ◌≡◌, ◌<◌, ◌↔◌, length, get_or}
use Rattle.jm_table.specs.Tables.{IsInGroup}
use Rattle.jm_table.proofs.table.Table.minimise.Given as goal

abbrev pub invariant-loop-group : goal.invariant-loop-group
invariant-loop-group l = record {
  states : l.minimal.states ≡ length l.partition.firsts.items;
  letters : l.minimal.letters ≡ l.self.letters;
  next : l.minimal.next ≡ l.initial.minimal.next;
  groups : length l.minimal.groups ≡ l.group;
  each : (c group : ℕ) → c < length l.partition.firsts.items → group < l.group → IsInGroup l.minimal c group ↔ IsInGroup l.self (get_or l.partition.firsts.items c 0) group;
}
