use Rattle.std.proofs.Common.{◌≡◌, length, ◌∙◌}
use Rattle.jm_sync.specs.Cuts.{rest_of}
use Rattle.jm_inputs.specs.Reading.{specs_in}
use Rattle.jm_inputs.proofs.ScriptLemmas.{room_after, script_cut, cut_refused, ok_then}
use Rattle.jm_inputs.proofs.scripts.add_cut.Goals as goal

pub cut-requires-clause-bounded : goal.cut-requires-clause-bounded
cut-requires-clause-bounded c =
    room_after c.args.scripts.now.posted c.args.bytes.now (length c.args.scripts.now.list.items) c.requires.counted.few_posted c.requires.bounded c.requires.small

pub returns-clause-read : goal.returns-clause-read
returns-clause-read c =
    let cut = c.in_ok-rest in
    let rest : c.as_slice.result.now ≡ rest_of c.args.bytes.now = c.as_slice.ensures.value ∙ cut.ensures.rest in
    ok_then _ _ c.add_steps.result
    (script_cut (specs_in c.args.spec_set.now) c.args.bytes.now c.requires.small c.as_slice.result.now rest c.args.scripts.now c.cut.new.names cut.ensures.ok c.add_steps.new.scripts cut.field-0.lines.items c.requires.counted cut.ensures.lines cut.ensures.rising cut.ensures.named)
    c.add_steps.ensures.read

pub returns-clause-fault : goal.returns-clause-fault
returns-clause-fault c = λ fault is.
    let cut = c.in_ok-rest in
    let rest : c.as_slice.result.now ≡ rest_of c.args.bytes.now = c.as_slice.ensures.value ∙ cut.ensures.rest in
    cut_refused (specs_in c.args.spec_set.now) c.args.bytes.now c.requires.small c.as_slice.result.now rest c.args.scripts.now c.cut.new.names cut.ensures.ok fault (c.add_steps.ensures.fault fault is)
