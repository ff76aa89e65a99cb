use Rattle.std.proofs.Common.{◌≡◌}
use Rattle.jm_coenable.specs.Needs.{is_reset}
use Rattle.jm_coenable.proofs.ResetLemmas.{reset_behind}
use Rattle.jm_coenable.proofs.property.is_reset.Given as goal

abbrev pub invariant-loop-handler : goal.invariant-loop-handler
invariant-loop-handler l = is_reset l.table l.goal l.state ≡ reset_behind l.table l.goal l.state l.handler
