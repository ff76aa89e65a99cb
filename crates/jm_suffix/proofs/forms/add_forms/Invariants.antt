use Rattle.std.proofs.Common.{◌≡◌, ◌++◌, drop}
use Rattle.jm_suffix.specs.Seconds.{second_forms}
use Rattle.jm_suffix.proofs.forms.add_forms.Given as goal

abbrev pub invariant-loop-place : goal.invariant-loop-place
invariant-loop-place l = l.productions.items ++ second_forms l.empty l.left (drop l.place l.symbols) ≡ l.initial.productions.items ++ second_forms l.empty l.left l.symbols
