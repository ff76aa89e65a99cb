use Rattle.std.proofs.Common.{◌++◌, ◌<◌, length, take, sym, ◌∙◌, ap, append_assoc, arith}
use Rattle.std.specs.List.{flat_map}
use Rattle.std.proofs.lemmas.Option.{get_or_from_slice_get}
use Rattle.jm_print.specs.Texts.{run_text_at}
use Rattle.jm_print.proofs.PairLemmas.{flat_map-more}
use Rattle.jm_print.proofs.history.Printer.firings.Goals as goal

pub loop-i-preserved : goal.loop-i-preserved
loop-i-preserved c =
    let l = c.args.self.now in
    let firings = c.args.firings.now in
    let i = c.loop-i.i in
    let f = c.get-firing.result in
    let run = run_text_at l c.args.caller c.args.line in
    let before = flat_map run (take i firings) in
    let within : i < length firings = omega (arith, c.loop-i-test.true, c.len-i-end.ensures) in
    c.in_ok-run.ensures
    ∙ ap (λ t. t ++ run f) c.loop-i.invariant
    ∙ append_assoc c.args.page.now before (run f)
    ∙ ap (λ t. c.args.page.now ++ t) (sym (flat_map-more run firings i f within (get_or_from_slice_get firings i f f c.get-firing.ensures)))
