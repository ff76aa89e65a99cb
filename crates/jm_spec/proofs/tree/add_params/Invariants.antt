use Rattle.std.proofs.Common.{◌≡◌, drop}
use Rattle.jm_spec.specs.Faults.{with_params}
use Rattle.jm_spec.proofs.tree.add_params.Given as goal

abbrev pub invariant-loop-param : goal.invariant-loop-param
invariant-loop-param l = with_params l.bytes l.table (drop l.param-index l.params) ≡ with_params l.bytes l.initial.table l.params
