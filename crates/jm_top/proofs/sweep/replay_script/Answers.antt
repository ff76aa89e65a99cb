use Rattle.std.proofs.Common.{length, arith}
use Rattle.jm_inputs.specs.Reading.{specs_in}
use Rattle.jm_inputs.specs.Scripts.{catalog_of}
use Rattle.jm_top.proofs.HistoryLemmas.{made_text}
use Rattle.jm_top.proofs.SweepLemmas.{part_fits, part_printable, part_text}
use Rattle.jm_top.proofs.sweep.replay_script.Goals as goal

pub name-requires : goal.name-requires
name-requires c = omega (arith, c.requires.spec_set.catalogued.many, c.requires.spec_set.one)

pub table-requires : goal.table-requires
table-requires c = omega (arith, c.requires.spec_set.catalogued.many, c.requires.spec_set.one)

pub index-requires : goal.index-requires
index-requires c = omega (arith, c.requires.spec_set.one)

pub printed_part-requires-clause-steps : goal.printed_part-requires-clause-steps
printed_part-requires-clause-steps c =
    let spec_set = c.args.spec_set.now in
    let own = c.in_ok-steps.ensures.fitting (catalog_of (specs_in spec_set)) (length c.args.objects.now) c.requires.fits in
    part_fits spec_set c.requires.spec_set c.index.result.now c.index.ensures c.name.result.now c.table.result.now c.name.ensures c.table.ensures c.args.objects.now c.in_ok-steps.steps.items own _ c.len.ensures.value

pub printed_part-requires-clause-printable : goal.printed_part-requires-clause-printable
printed_part-requires-clause-printable c = λ h is.
    let spec_set = c.args.spec_set.now in
    let own = c.in_ok-steps.ensures.fitting (catalog_of (specs_in spec_set)) (length c.args.objects.now) c.requires.fits in
    part_printable spec_set c.requires.spec_set c.index.result.now c.index.ensures c.name.result.now c.table.result.now c.name.ensures c.table.ensures c.args.objects.now c.in_ok-steps.steps.items own h is

pub returns : goal.returns
returns c =
    let spec_set = c.args.spec_set.now in
    let own = c.in_ok-steps.ensures.fitting (catalog_of (specs_in spec_set)) (length c.args.objects.now) c.requires.fits in
    made_text (λ text. text.items) _ _ c.printed_part.result
    (part_text spec_set c.requires.spec_set c.index.result.now c.index.ensures c.name.result.now c.table.result.now c.name.ensures c.table.ensures c.args.objects.now c.in_ok-steps.steps.items own c.args.script c.in_ok-steps.ensures.value)
    c.printed_part.ensures
