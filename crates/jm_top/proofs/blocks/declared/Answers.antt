use Rattle.std.proofs.Common.{◌∙◌, ap, arith}
use Rattle.std.specs.Prelude.{map}
use Rattle.std.specs.List.{flat_map}
use Rattle.std.proofs.lemmas.List.{take_all}
use Rattle.jm_inputs.specs.Reading.{listed, specification_of}
use Rattle.jm_top.specs.Texts.{declared_text}
use Rattle.jm_inputs.proofs.SpecSetLemmas.{length-listed}
use Rattle.jm_top.proofs.TextLemmas.{entry_there, listed_there, declared_more}
use Rattle.jm_top.proofs.blocks.declared.Goals as goal

pub loop-spec-preserved : goal.loop-spec-preserved
loop-spec-preserved c =
    let entry = entry_there c.args.catalog.now c.loop-spec.spec c.name.result.now c.table.result.now c.name.ensures c.table.ensures in
    let here = listed_there c.args.catalog.now c.args.specs.now c.loop-spec.spec _ c.index-specs-number.result c.requires (omega arith) entry c.index-specs-number.is in
    declared_more (listed c.args.catalog.now c.args.specs.now) c.loop-spec.spec _ _ _ _ here.0 here.1 c.loop-spec.invariant c.in_ok-block.ensures c.in_ok-text.ensures

pub returns : goal.returns
returns c =
    let many = length-listed c.args.catalog.now c.args.specs.now c.requires in
    c.loop-spec.invariant ∙ ap (λ v. flat_map declared_text (map specification_of v)) (take_all c.loop-spec.spec (listed c.args.catalog.now c.args.specs.now) (omega (arith, many, c.requires, c.len-spec-end.ensures.value, c.loop-spec-test.false)))
