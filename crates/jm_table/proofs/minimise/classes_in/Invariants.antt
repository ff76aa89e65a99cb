use Rattle.std.proofs.Common.{ℕ, ◌<◌, ◌↔◌, All, Contains, get_or}
use Rattle.jm_table.specs.Tables.{IsInGroup}
use Rattle.jm_table.proofs.minimise.classes_in.Given as goal

abbrev pub invariant-loop-class : goal.invariant-loop-class
invariant-loop-class l = record {
  within : All (λ c. c < l.class) l.members.items;
  exact : (c : ℕ) → c < l.class → Contains l.members.items c ↔ IsInGroup l.table (get_or l.partition.firsts.items c 0) l.group;
}
