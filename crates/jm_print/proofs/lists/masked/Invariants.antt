use Rattle.std.proofs.Common.{◌≡◌, ◌++◌, take}
use Rattle.jm_print.specs.Lists.{name_list, is_empty, names_of_mask}
use Rattle.jm_print.proofs.lists.masked.Given as goal

abbrev pub invariant-loop-p : goal.invariant-loop-p
invariant-loop-p l = record {
  none : l.first ≡ is_empty (names_of_mask (take l.p l.table.parameters) l.mask);
  so_far : l.page ≡ l.initial.page ++ name_list (names_of_mask (take l.p l.table.parameters) l.mask);
}
