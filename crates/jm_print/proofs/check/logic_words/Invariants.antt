use Rattle.std.proofs.Common.{◌≡◌, ◌++◌, take, map}
use Rattle.jm_print.specs.Checks.{logic_word}
use Rattle.jm_print.specs.Lists.{name_list, is_empty}
use Rattle.jm_print.proofs.check.logic_words.Given as goal

abbrev pub invariant-loop-logic : goal.invariant-loop-logic
invariant-loop-logic l = record {
  none : l.first ≡ is_empty (map logic_word (take l.logic-index l.logics));
  so_far : l.page ≡ l.initial.page ++ name_list (map logic_word (take l.logic-index l.logics));
}
