use Rattle.std.proofs.Common.{◌∙◌, ◌++◌, sym, arith}
use Rattle.std.specs.Prelude.{map}
use Rattle.std.proofs.lemmas.List.{take_all}
use Rattle.jm_print.specs.Told.{texts_of}
use Rattle.jm_top.specs.Histories.{lexicon}
use Rattle.jm_top.proofs.TextLemmas.{rules_of, entry_there, length-titled_by, titled_there, histories_more, printable_place}
use Rattle.jm_top.specs.Printing.{titled_by}
use Rattle.jm_top.proofs.histories.histories_text.Goals as goal

pub history_text-requires : goal.history_text-requires
history_text-requires c =
    let entry = entry_there c.args.catalog.now c.loop-spec.spec c.name-name.result.now c.table-table.result.now c.name-name.ensures c.table-table.ensures in
    let here = titled_there c.args.catalog.now c.args.headers.now c.args.ended.now c.loop-spec.spec _ c.index-headers-number.result c.index-ended-number.result c.requires.titled c.requires.many (omega arith) entry c.index-headers-number.is c.index-ended-number.is in
    printable_place (lexicon c.args.objects.now) (λ p. p.history) (titled_by c.args.catalog.now c.args.headers.now (rules_of c.args.ended.now)) c.args.ended.now c.loop-spec.spec _ c.index-ended-number.result c.requires.printable here.0
    (omega (arith, c.requires.titled, c.requires.many)) here.1 c.index-ended-number.is

pub loop-spec-preserved : goal.loop-spec-preserved
loop-spec-preserved c =
    let entry = entry_there c.args.catalog.now c.loop-spec.spec c.name-name.result.now c.table-table.result.now c.name-name.ensures c.table-table.ensures in
    let here = titled_there c.args.catalog.now c.args.headers.now c.args.ended.now c.loop-spec.spec _ c.index-headers-number.result c.index-ended-number.result c.requires.titled c.requires.many (omega arith) entry c.index-headers-number.is c.index-ended-number.is in
    c.in_ok-text.ensures ∙ (λ j. c.loop-spec.invariant j ++ c.in_ok-block.ensures j)
    ∙ sym (histories_more (lexicon c.args.objects.now) (λ p. p.history) (titled_by c.args.catalog.now c.args.headers.now (rules_of c.args.ended.now)) c.args.ended.now c.loop-spec.spec _ c.index-ended-number.result here.0
    (omega (arith, c.requires.titled, c.requires.many)) here.1 c.index-ended-number.is)

pub returns : goal.returns
returns c =
    let many = length-titled_by c.args.catalog.now c.args.headers.now c.args.ended.now c.requires.titled c.requires.many in
    let shown = take_all c.loop-spec.spec (titled_by c.args.catalog.now c.args.headers.now (rules_of c.args.ended.now)) (omega (arith, many, c.len-spec-end.ensures.value, c.loop-spec-test.false)) in
    let props = take_all c.loop-spec.spec c.args.ended.now (omega (arith, c.requires.titled, c.requires.many, c.len-spec-end.ensures.value, c.loop-spec-test.false)) in
    c.loop-spec.invariant ∙ (λ j. texts_of (map (lexicon c.args.objects.now) (shown j)) (map (λ p. p.history) (props j)))
