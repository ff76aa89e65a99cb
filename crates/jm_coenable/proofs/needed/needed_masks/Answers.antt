use Rattle.std.proofs.Common.{◌∙◌}
use Rattle.jm_coenable.proofs.NeedLemmas.{needs_all}
use Rattle.jm_coenable.proofs.needed.needed_masks.Goals as goal

pub loop-init : goal.loop-init
loop-init c = record {
  count = c.in_ok-needed.ensures.count ∙ c.len.ensures.value;
  sound = λ state mask lt there. absurd (c.in_ok-needed.ensures.empty state mask there);
}

pub returns-clause-exact : goal.returns-clause-exact
returns-clause-exact c = λ state mask lt. (
  λ there. c.go_back.ensures.sound c.loop.invariant.sound state mask lt there,
  λ need. needs_all c.args.table.now c.args.goal.now c.args.events.now c.go_back.new.needed.items c.len.ensures.table (c.go_back.ensures.closed c.loop-test.false) need.1 state need.0 mask lt need.2,
)
