use Rattle.std.proofs.Common.{refl}
use Rattle.jm_machine.proofs.LivenessLemmas.{not_both}
use Rattle.jm_machine.proofs.table_liveness.is_ending.Goals as goal

pub returns-then-hits-next-eq0 : goal.returns-then-hits-next-eq0
returns-then-hits-next-eq0 c = λ dead. record {
  letter = c.requires.letter;
  quiet = rw c.step-next.ensures.value at c.if-hits-next-eq0.true;
  ends = λ u g v needs alive. not_both c.alive.result _ dead (λ a. (c.alive.ensures u g v needs).1 (refl, a)) (rw (← c.step-next.ensures.value) at alive);
}
