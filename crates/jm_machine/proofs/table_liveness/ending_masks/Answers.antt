use Rattle.jm_machine.specs.Liveness.{IsEndingLetter}
use Rattle.jm_machine.proofs.LivenessLemmas.{bits_push, count_push}
use Rattle.jm_machine.proofs.table_liveness.ending_masks.Goals as goal

pub loop-state-preserved : goal.loop-state-preserved
loop-state-preserved c = record {
  count = rw c.in_ok-push.ensures.items (count_push c.loop-state.masks.items c.ending_letters.result c.loop-state.state c.loop-state.invariant.count);
  each = rw c.in_ok-push.ensures.items (bits_push (IsEndingLetter c.args.table.now c.args.hits.now c.args.goal.now c.args.needs.now) c.loop-state.masks.items c.ending_letters.result c.loop-state.state c.loop-state.invariant.count c.loop-state.invariant.each c.ending_letters.ensures);
}
