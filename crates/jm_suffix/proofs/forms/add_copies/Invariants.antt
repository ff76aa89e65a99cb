use Rattle.std.proofs.Common.{◌≡◌, ◌++◌, take}
use Rattle.jm_suffix.proofs.forms.add_copies.Given as goal

abbrev pub invariant-loop-production : goal.invariant-loop-production
invariant-loop-production l = l.productions.items ≡ l.initial.productions.items ++ take l.production-index l.own
