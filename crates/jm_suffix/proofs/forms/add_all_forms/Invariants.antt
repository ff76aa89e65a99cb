use Rattle.std.proofs.Common.{◌≡◌, ◌++◌, drop}
use Rattle.jm_suffix.specs.Seconds.{all_second_forms}
use Rattle.jm_suffix.proofs.forms.add_all_forms.Given as goal

abbrev pub invariant-loop-production : goal.invariant-loop-production
invariant-loop-production l = l.productions.items ++ all_second_forms l.empty (drop l.production-index l.own) ≡ l.initial.productions.items ++ all_second_forms l.empty l.own
