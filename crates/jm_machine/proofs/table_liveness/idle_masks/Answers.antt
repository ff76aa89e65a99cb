use Rattle.jm_machine.specs.Liveness.{IsIdleLetter}
use Rattle.jm_machine.proofs.LivenessLemmas.{bits_push, count_push}
use Rattle.jm_machine.proofs.table_liveness.idle_masks.Goals as goal

pub loop-state-preserved : goal.loop-state-preserved
loop-state-preserved c = record {
  count = rw c.in_ok-push.ensures.items (count_push c.loop-state.masks.items c.idle_letters.result c.loop-state.state c.loop-state.invariant.count);
  each = rw c.in_ok-push.ensures.items (bits_push (IsIdleLetter c.args.table.now c.args.hits.now) c.loop-state.masks.items c.idle_letters.result c.loop-state.state c.loop-state.invariant.count c.loop-state.invariant.each c.idle_letters.ensures);
}
