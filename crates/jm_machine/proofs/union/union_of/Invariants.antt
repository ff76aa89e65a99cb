use Rattle.std.proofs.Common.{ℕ, ◌<◌, ◌↔◌, ◌++◌, Contains}
use Rattle.std.specs.List.Sorted.{IsStrictlySortedBy}
use Rattle.std.specs.Ordering.{nat_cmp}
use Rattle.jm_machine.proofs.union.union_of.Given as goal

abbrev pub invariant-loop-number : goal.invariant-loop-number
invariant-loop-number l = record {
  rising : IsStrictlySortedBy nat_cmp l.masks.items;
  members : (m : ℕ) → Contains l.masks.items m ↔ ((m < l.number) × Contains (l.one ++ l.other) m);
}
