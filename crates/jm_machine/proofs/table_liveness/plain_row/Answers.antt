use Rattle.std.proofs.Common.{ℕ}
use Rattle.jm_machine.specs.Liveness.{IsPlainEntry}
use Rattle.jm_machine.proofs.LivenessLemmas.{get_push, count_push}
use Rattle.jm_machine.proofs.table_liveness.plain_row.Goals as goal

pub loop-state-preserved : goal.loop-state-preserved
loop-state-preserved c =
    let P : ℕ → ℕ → Type 0 =
    λ state entry. IsPlainEntry c.args.table.now c.args.hits.now c.args.goal.now c.args.needs.now c.args.letter.0 state entry in
    let here = c.plain_state.result in
    let count = c.loop-state.invariant.count in
    record {
      count = rw c.in_ok-push.ensures.items (count_push c.loop-state.row.items here c.loop-state.state count);
      each = rw c.in_ok-push.ensures.items
          (get_push P c.loop-state.row.items here c.loop-state.state count c.loop-state.invariant.each
          c.plain_state.ensures);
    }
