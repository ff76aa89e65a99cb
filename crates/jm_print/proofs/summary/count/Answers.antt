use Rattle.std.proofs.Common.{ℕ, ◌+◌, ◌%◌, ◌^◌, take, refl, sym, ◌∙◌, ap}
use Rattle.std.specs.Prelude.{sum_by}
use Rattle.std.specs.List.{flat_map}
use Rattle.jm_model.specs.declared.step.Entry.{Entry}
use Rattle.jm_print.specs.Summaries.{weight_of}
use Rattle.jm_print.proofs.CountLemmas.{sum_by-joined, modulo_sum}
use Rattle.jm_print.proofs.summary.count.Goals as goal

pub loop-piece-preserved : goal.loop-piece-preserved
loop-piece-preserved c =
    let pieces = c.args.pieces.now in
    let i = c.loop-piece.piece-index in
    let piece = c.piece-item.result in
    let f = λ (x : Entry). weight_of c.args.what x.step x.outcome in
    let so_far = sum_by f (flat_map (λ piece. piece) (take i pieces)) in
    let more = sum_by-joined f pieces i piece c.loop-piece-test.true (sym c.piece-item.is) in
    modulo_sum c.loop-piece.count so_far c.count_in-count.result (sum_by f piece) ((c.loop-piece.count + c.count_in-count.result) % 2 ^ 64) c.loop-piece.invariant c.count_in-count.ensures refl
    ∙ ap (λ (n : ℕ). n % 2 ^ 64) (sym more)
