use Rattle.std.proofs.Common.{◌∙◌}
use Rattle.jm_coenable.proofs.ArrivalLemmas.{arrivals_all}
use Rattle.jm_coenable.proofs.arrivals.last_letters.Goals as goal

pub loop-init : goal.loop-init
loop-init c = record {
  count = c.in_ok-arrivals.ensures.count ∙ c.len.ensures.value;
  sound = λ state last lt there. absurd (c.in_ok-arrivals.ensures.empty state last there);
}

pub returns-clause-exact : goal.returns-clause-exact
returns-clause-exact c = λ state last lt. (
  λ there. c.go_on.ensures.sound c.loop.invariant.sound state last lt there,
  λ arrival. arrivals_all c.args.table.now c.args.goal.now c.go_on.new.arrivals.items c.len.ensures.table (c.go_on.ensures.closed c.loop-test.false) state last arrival,
)
