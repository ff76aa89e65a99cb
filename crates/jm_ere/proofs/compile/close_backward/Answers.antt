use Rattle.std.proofs.Common.{Bool, List, subst}
use Rattle.jm_ere.specs.Groups.{LeadsToLive}
use Rattle.jm_ere.proofs.LiveLemmas.{live_more}
use Rattle.jm_ere.proofs.compile.close_backward.Goals as goal

pub loop-state-preserved : goal.loop-state-preserved
loop-state-preserved c = record {
  many = c.loop-state.invariant.many;
  sound = λ forms first. live_more c.args.table.now forms c.loop-state.live.items c.in-Some.state (c.loop-state.invariant.sound forms first)
      (subst (λ (l : List Bool). LeadsToLive c.args.table.now l c.in-Some.state) c.as_slice.ensures.value c.in-Some.ensures.leads);
}
