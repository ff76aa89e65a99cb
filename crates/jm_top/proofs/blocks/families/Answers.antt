use Rattle.std.proofs.Common.{◌≡◌, false, subst, arith}
use Rattle.std.specs.Prelude.{map}
use Rattle.std.proofs.lemmas.List.{take_all}
use Rattle.jm_machine.specs.Meanings.{has_grammar}
use Rattle.jm_inputs.specs.Reading.{Listed, listing, named_entry, listed, specification_of, FitsEntry}
use Rattle.jm_top.specs.Texts.{IsTextOfFamilies}
use Rattle.jm_inputs.proofs.SpecSetLemmas.{length-listed}
use Rattle.jm_top.proofs.TextLemmas.{entry_there, listed_there, All-place, families_more}
use Rattle.jm_top.proofs.blocks.families.Goals as goal

pub families_text-requires-clause-whole : goal.families_text-requires-clause-whole
families_text-requires-clause-whole c =
    let entry = entry_there c.args.catalog.now c.loop-spec.spec c.name.result.now c.table.result.now c.name.ensures c.table.ensures in
    let here = listed_there c.args.catalog.now c.args.specs.now c.loop-spec.spec _ c.index-specs-number.result c.requires.many (omega arith) entry c.index-specs-number.is in
    All-place FitsEntry (listed c.args.catalog.now c.args.specs.now) c.loop-spec.spec _ c.requires.whole here.0 here.1

pub families_text-requires-clause-table : goal.families_text-requires-clause-table
families_text-requires-clause-table c =
    let named = named_entry c.name.result.now c.table.result.now in
    let entry = entry_there c.args.catalog.now c.loop-spec.spec c.name.result.now c.table.result.now c.name.ensures c.table.ensures in
    let here = listed_there c.args.catalog.now c.args.specs.now c.loop-spec.spec named c.index-specs-number.result c.requires.many (omega arith) entry c.index-specs-number.is in
    All-place (λ (l : Listed). has_grammar l.rules.definition.properties ≡ false) (listed c.args.catalog.now c.args.specs.now) c.loop-spec.spec (listing named c.index-specs-number.result) c.requires.tables here.0 here.1

pub loop-spec-preserved : goal.loop-spec-preserved
loop-spec-preserved c =
    let entry = entry_there c.args.catalog.now c.loop-spec.spec c.name.result.now c.table.result.now c.name.ensures c.table.ensures in
    let here = listed_there c.args.catalog.now c.args.specs.now c.loop-spec.spec _ c.index-specs-number.result c.requires.many (omega arith) entry c.index-specs-number.is in
    families_more (listed c.args.catalog.now c.args.specs.now) c.loop-spec.spec _ _ _ _ here.0 here.1 c.loop-spec.invariant c.in_ok-block.ensures c.in_ok-text.ensures

pub returns : goal.returns
returns c =
    let many = length-listed c.args.catalog.now c.args.specs.now c.requires.many in
    subst (λ v. IsTextOfFamilies (map specification_of v) c.loop-spec.text.items)
    (take_all c.loop-spec.spec (listed c.args.catalog.now c.args.specs.now) (omega (arith, many, c.requires.many, c.len-spec-end.ensures.value, c.loop-spec-test.false))) c.loop-spec.invariant
