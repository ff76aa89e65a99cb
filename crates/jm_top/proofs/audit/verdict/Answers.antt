use Rattle.std.proofs.Common.{◌∙◌, length, ap, arith}
use Rattle.std.proofs.lemmas.Result.{IfOk-weaker}
use Rattle.jm_print.specs.Lexicons.{lexicon_of}
use Rattle.jm_inputs.specs.Specifications.{Specification}
use Rattle.jm_inputs.specs.Reading.{specs_in}
use Rattle.jm_inputs.proofs.SpecSetLemmas.{length-specs_in}
use Rattle.jm_audit.specs.Sheets.{lexicon}
use Rattle.jm_top.specs.Histories as top
use Rattle.jm_top.proofs.SheetLemmas.{sheet_fits, kept_at, fit_none, fit_more, many_more, sheets_none, sheets_more, verdict_to}
use Rattle.jm_top.proofs.audit.verdict.Goals as goal

pub loop-number-init : goal.loop-number-init
loop-number-init c =
    let inputs = c.args.inputs.now in
    record {
      fit = fit_none (λ s. s.rules.now.definition) (lexicon inputs.scripts.objects) inputs.scripts.list.items _ c.new-sheets.ensures.items;
      same = sheets_none (λ s. s.rules.now.definition) (lexicon inputs.scripts.objects) inputs.scripts.list.items _ (specs_in inputs.spec_set) inputs.scripts.objects c.new-sheets.ensures.items;
      many = ap (λ v. length v) c.new-sheets.ensures.items;
    }

pub loop-number-preserved : goal.loop-number-preserved
loop-number-preserved c =
    let inputs = c.args.inputs.now in
    let n = c.loop-number.number in
    let compiled = c.index-compiled.result.now in
    let kept = kept_at inputs.spec_set c.requires.catalogued n c.name.result.now c.table.result.now compiled c.name.ensures c.table.ensures c.index-compiled.ensures in
    record {
      fit = fit_more (λ s. s.rules.now.definition) (lexicon inputs.scripts.objects) inputs.scripts.list.items c.loop-number.sheets.items _ _ n c.in_ok-push.ensures.items c.loop-number.invariant.many c.loop-number.invariant.fit
          (sheet_fits inputs.spec_set inputs.scripts c.requires.catalogued c.requires.counted n c.name.result.now c.table.result.now compiled c.name.ensures c.table.ensures c.index-compiled.ensures
          _ (λ i. lexicon_of c.name.result.now c.table.result.now (c.handlers.ensures i) inputs.scripts.objects (c.as_slice.ensures.value i)));
      same = sheets_more (λ s. s.rules.now.definition) (lexicon inputs.scripts.objects) inputs.scripts.list.items c.loop-number.sheets.items _ _ n (specs_in inputs.spec_set) inputs.scripts.objects c.in_ok-push.ensures.items c.loop-number.invariant.many c.loop-number.invariant.same
          (λ t at.
          let is = kept t at in
          (ap (λ (t : Specification). t.rules) is, (λ i. lexicon_of c.name.result.now c.table.result.now (c.handlers.ensures i) inputs.scripts.objects (c.as_slice.ensures.value i)) ∙ ap (top.lexicon inputs.scripts.objects) is));
      many = many_more c.loop-number.sheets.items _ _ n c.in_ok-push.ensures.items c.loop-number.invariant.many;
    }

pub returns : goal.returns
returns c =
    let inputs = c.args.inputs.now in
    IfOk-weaker c.audit.result _ _
    (λ v. verdict_to (λ s. s.rules.now.definition) (lexicon inputs.scripts.objects) inputs.scripts.list.items c.loop-number.sheets.items (specs_in inputs.spec_set) inputs.scripts.objects
    (omega (arith, c.loop-number.invariant.many, length-specs_in inputs.spec_set c.requires.catalogued, c.requires.catalogued.many)) c.loop-number.invariant.same c.args.history.now v)
    (rw (c.as_slice-2.ensures.value, c.as_slice-3.ensures.value) at c.audit.ensures)
