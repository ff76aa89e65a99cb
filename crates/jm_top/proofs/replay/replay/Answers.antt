use Rattle.std.proofs.Common.{length}
use Rattle.jm_script.specs.Blocks.{steps_in}
use Rattle.jm_inputs.specs.Scripts.{catalog_of}
use Rattle.jm_inputs.specs.Reading.{specs_in}
use Rattle.jm_top.proofs.HistoryLemmas.{script_fits, own_doable, own_printable, own_text, made_text}
use Rattle.jm_top.proofs.replay.replay.Goals as goal

pub replay_blocks-requires-clause-steps : goal.replay_blocks-requires-clause-steps
replay_blocks-requires-clause-steps c =
    let spec_set = c.args.spec_set in
    let scripts = c.args.scripts in
    let fits = script_fits spec_set c.requires.catalogued scripts c.requires.counted c.requires.one_script _ c.in-Some.script c.in-Some.ensures.items in
    let own = c.in_ok-blocks.ensures.fitting (catalog_of (specs_in spec_set)) (length scripts.objects) 0 fits in
    (own_doable spec_set c.requires.catalogued scripts c.requires.counted c.requires.one_script _ c.in-Some.script c.in-Some.ensures.items _ c.in-Some-pop.compiled c.in-Some-pop.ensures.items c.requires.one_spec c.name.result.now c.table.result.now c.name.ensures c.table.ensures (steps_in 0 c.in_ok-blocks.blocks.items) own)

pub replay_blocks-requires-clause-printable : goal.replay_blocks-requires-clause-printable
replay_blocks-requires-clause-printable c = λ h is.
    let spec_set = c.args.spec_set in
    let scripts = c.args.scripts in
    let fits = script_fits spec_set c.requires.catalogued scripts c.requires.counted c.requires.one_script _ c.in-Some.script c.in-Some.ensures.items in
    let own = c.in_ok-blocks.ensures.fitting (catalog_of (specs_in spec_set)) (length scripts.objects) 0 fits in
    own_printable spec_set c.requires.catalogued scripts c.requires.counted c.requires.one_script _ c.in-Some.script c.in-Some.ensures.items _ c.in-Some-pop.compiled c.in-Some-pop.ensures.items c.requires.one_spec c.name.result.now c.table.result.now c.name.ensures c.table.ensures (steps_in 0 c.in_ok-blocks.blocks.items) own h is

pub returns : goal.returns
returns c =
    let spec_set = c.args.spec_set in
    let scripts = c.args.scripts in
    let fits = script_fits spec_set c.requires.catalogued scripts c.requires.counted c.requires.one_script _ c.in-Some.script c.in-Some.ensures.items in
    let own = c.in_ok-blocks.ensures.fitting (catalog_of (specs_in spec_set)) (length scripts.objects) 0 fits in
    made_text (λ text. text.items) _ _ c.replay_blocks.result
    (own_text spec_set c.requires.catalogued scripts c.requires.counted c.requires.one_script _ c.in-Some.script c.in-Some.ensures.items _ c.in-Some-pop.compiled c.in-Some-pop.ensures.items c.requires.one_spec c.name.result.now c.table.result.now c.name.ensures c.table.ensures (steps_in 0 c.in_ok-blocks.blocks.items) own (c.in_ok-blocks.ensures.value 0) c.requires.sound)
    c.replay_blocks.ensures
