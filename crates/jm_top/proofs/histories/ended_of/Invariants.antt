use Rattle.std.proofs.Common.{◌≡◌}
use Rattle.std.specs.Prelude.{map}
use Rattle.jm_top.proofs.histories.ended_of.Given as goal

abbrev pub invariant-loop-prop : goal.invariant-loop-prop
invariant-loop-prop l = record {
  rules : map (λ e. e.rules) l.all.items ≡ map (λ p. p.definition) l.yielded;
  histories : map (λ e. e.history) l.all.items ≡ map (λ p. p.entries) l.yielded;
}
