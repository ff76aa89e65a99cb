use Rattle.std.proofs.Common.{ℕ, List}
use Rattle.jm_machine.specs.Liveness.{IsPlainRow}
use Rattle.jm_machine.proofs.LivenessLemmas.{rows_push, count_push}
use Rattle.jm_machine.proofs.table_liveness.plain_rows.Goals as goal

pub loop-letter-preserved : goal.loop-letter-preserved
loop-letter-preserved c =
    let P : ℕ → List ℕ → Type 0 =
    λ e row. IsPlainRow c.args.table.now c.args.hits.now c.args.goal.now c.args.needs.now e row in
    let row = c.in_ok-plain_row.field-0 in
    let count = c.loop-letter.invariant.count in
    record {
      count = rw c.in_ok-push.ensures.items (count_push c.loop-letter.rows.items row c.loop-letter.letter count);
      each = rw c.in_ok-push.ensures.items
          (rows_push (λ r. r.items) P c.loop-letter.rows.items row c.loop-letter.letter count (λ e s n at. absurd cc)
          c.loop-letter.invariant.each c.in_ok-plain_row.ensures);
    }
