use Rattle.std.proofs.Common.{ℕ, ◌+◌, ◌%◌, ◌^◌, ◌<◌, length, take, refl, sym, ◌∙◌, ap, arith}
use Rattle.std.specs.Prelude.{sum_by}
use Rattle.std.proofs.lemmas.Option.{get_or_from_slice_get}
use Rattle.jm_model.specs.declared.step.Entry.{Entry}
use Rattle.jm_print.specs.Summaries.{weight_of}
use Rattle.jm_print.proofs.CountLemmas.{sum_by-more, modulo_more}
use Rattle.jm_print.proofs.summary.count_in.Goals as goal

pub loop-i-preserved : goal.loop-i-preserved
loop-i-preserved c =
    let piece = c.args.piece.now in
    let i = c.loop-i.i in
    let x = c.get-entry.result in
    let before = c.loop-i.invariant in
    let within : i < length piece = omega (arith, c.loop-i-test.true, before.counted) in
    let f = λ (x : Entry). weight_of c.args.what x.step x.outcome in
    let so_far = sum_by f (take i piece) in
    let more = sum_by-more f piece i x within (get_or_from_slice_get piece i x x c.get-entry.ensures) in
    record {
      counted = before.counted;
      so_far =
          modulo_more c.loop-i.count so_far c.weight-count.result ((c.loop-i.count + c.weight-count.result) % 2 ^ 64) before.so_far refl
          ∙ ap (λ (n : ℕ). (so_far + n) % 2 ^ 64) (c.weight-count.ensures ∙ (λ j. weight_of c.args.what (c.step.ensures j) (c.outcome.ensures j)))
          ∙ ap (λ (n : ℕ). n % 2 ^ 64) (sym more);
    }
