use Rattle.std.proofs.Common.{◌≡◌, ◌++◌, map}
use Rattle.std.specs.List.{range_with_len}
use Rattle.jm_suffix.specs.Seconds.{start_behind}
use Rattle.jm_suffix.proofs.forms.add_start_forms.Given as goal

abbrev pub invariant-loop-letter : goal.invariant-loop-letter
invariant-loop-letter l = l.productions.items ≡ l.initial.productions.items ++ map start_behind (range_with_len 0 l.letter)
