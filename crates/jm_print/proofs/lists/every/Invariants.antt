use Rattle.std.proofs.Common.{◌≡◌, ◌++◌, take}
use Rattle.jm_print.specs.Lists.{name_list, is_empty}
use Rattle.jm_print.proofs.lists.every.Given as goal

abbrev pub invariant-loop-p : goal.invariant-loop-p
invariant-loop-p l = record {
  none : l.first ≡ is_empty (take l.p l.table.parameters);
  so_far : l.page ≡ l.initial.page ++ name_list (take l.p l.table.parameters);
}
