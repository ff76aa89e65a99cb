use Rattle.std.proofs.Common.{◌<◌, ◌++◌, [], ◌∷◌, length, take, sym, ◌∙◌, ap, append_assoc, arith}
use Rattle.std.proofs.lemmas.List.{take_more}
use Rattle.std.proofs.lemmas.Option.{get_or_from_slice_get}
use Rattle.jm_history.proofs.history.add_copies.Goals as goal

pub loop-i-preserved : goal.loop-i-preserved
loop-i-preserved c =
    let piece = c.args.piece.now in
    let old = c.args.entries.now.items in
    let i = c.loop-i.i in
    let x = c.get.result in
    let y = c.in_ok-copy.field-0 in
    let before = c.loop-i.invariant in
    let within : i < length piece = omega (arith, c.loop-i-test.true, before.counted) in
    let more = take_more piece i x within ∙ ap (λ v. take i piece ++ v ∷ []) (get_or_from_slice_get piece i x x c.get.ensures ∙ sym c.in_ok-copy.ensures) in
    record {
      counted = before.counted;
      so_far = c.in_ok-push.ensures.items ∙ ap (λ l. l ++ y ∷ []) before.so_far ∙ append_assoc old (take i piece) (y ∷ []) ∙ ap (λ l. old ++ l) (sym more);
    }
