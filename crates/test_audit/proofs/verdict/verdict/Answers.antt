use Rattle.std.proofs.Common.{◌∙◌, ap, length}
use Rattle.jm_machine.specs.Meanings.{rules_meaning}
use Rattle.jm_print.specs.Lexicons.{lexicon_of}
use Rattle.jm_audit.specs.Sheets.{lexicon}
use Rattle.test_audit.proofs.FitLemmas.{sheet_fits, fit_none, fit_more, many_more}
use Rattle.test_audit.proofs.verdict.verdict.Goals as goal

pub loop-number-init : goal.loop-number-init
loop-number-init c = record {
  fit = fit_none (λ s. rules_meaning s.rules.now.definition) (lexicon c.args.inputs.now.scripts.objects) c.args.inputs.now.scripts.list.items _ c.new-sheets.ensures.items;
  many = ap (λ v. length v) c.new-sheets.ensures.items;
}

pub loop-number-preserved : goal.loop-number-preserved
loop-number-preserved c =
    let inputs = c.args.inputs.now in
    let n = c.loop-number.number in
    let compiled = c.index-compiled.result.now in
    record {
      fit = fit_more (λ s. rules_meaning s.rules.now.definition) (lexicon inputs.scripts.objects) inputs.scripts.list.items c.loop-number.sheets.items _ _ n c.in_ok-push.ensures.items c.loop-number.invariant.many c.loop-number.invariant.fit
          (sheet_fits inputs.spec_set inputs.scripts c.requires.catalogued c.requires.counted n c.name.result.now c.table.result.now compiled c.name.ensures c.table.ensures c.index-compiled.ensures
          _ (λ i. lexicon_of c.name.result.now c.table.result.now (c.handlers.ensures i) inputs.scripts.objects (c.as_slice.ensures.value i)));
      many = many_more c.loop-number.sheets.items _ _ n c.in_ok-push.ensures.items c.loop-number.invariant.many;
    }
