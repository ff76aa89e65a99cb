use Rattle.std.specs.Prelude.{string_bytes}
use Rattle.std.proofs.Common.{◌∙◌, true}
use Rattle.std.proofs.lemmas.Result.{err_from_is_err_and}
use Rattle.jm_inputs.specs.Sources.{Named}
use Rattle.jm_inputs.specs.Causes.{short}
use Rattle.jm_inputs.specs.Reading.{specs_in}
use Rattle.jm_inputs.proofs.SpecSetLemmas.{spec_set_length}
use Rattle.jm_inputs.proofs.ScriptLemmas.{scripts_length}
use Rattle.jm_top.proofs.CommandLemmas.{replay_made}
use Rattle.jm_inputs.proofs.StopLemmas.{replay_stops}
use Rattle.jm_top.proofs.job.replayed.Goals as goal

pub returns-in_err-inputs-clause-carried_out : goal.returns-in_err-inputs-clause-carried_out
returns-in_err-inputs-clause-carried_out g c =
    let p = err_from_is_err_and c.from_residual.result c.from_residual.ensures.1 in
    rw (p.1, p.2) (replay_stops (g.F.Folder.holds c.args.files.now) (string_bytes c.args.spec.now) (string_bytes c.args.script.now) _ (rw (c.from_ref.ensures.value, c.from_ref-2.ensures.value) at c.in_err-inputs.ensures.err))

pub replay-requires-clause-one_spec : goal.replay-requires-clause-one_spec
replay-requires-clause-one_spec g c =
    let many = spec_set_length (λ n. Named n) string_bytes (g.F.Folder.holds c.args.files.now) _ c.from_ref.result.now c.in_ok-inputs.inputs.spec_set c.in_ok-inputs.ensures.read.spec_set in
    many ∙ c.from_ref.ensures.len

pub replay-requires-clause-one_script : goal.replay-requires-clause-one_script
replay-requires-clause-one_script g c =
    let many = scripts_length (λ n. Named n) string_bytes (g.F.Folder.holds c.args.files.now) true (specs_in c.in_ok-inputs.inputs.spec_set) 0 c.from_ref-2.result.now c.in_ok-inputs.inputs.scripts c.in_ok-inputs.ensures.read.read.read in
    many ∙ c.from_ref-2.ensures.len

pub replay-requires-clause-catalogued : goal.replay-requires-clause-catalogued
replay-requires-clause-catalogued g c = c.in_ok-inputs.ensures.read.spec_set.catalogued

pub replay-requires-clause-counted : goal.replay-requires-clause-counted
replay-requires-clause-counted g c = c.in_ok-inputs.ensures.read.read.read.counted

pub replay-requires-clause-sound : goal.replay-requires-clause-sound
replay-requires-clause-sound g c = c.in_ok-inputs.ensures.read.read.sound

pub returns-in_err-text-clause-carried_out : goal.returns-in_err-text-clause-carried_out
returns-in_err-text-clause-carried_out g c =
    let p = err_from_is_err_and c.from_residual-in_err-text.result c.from_residual-in_err-text.ensures.1 in
    rw (p.1, p.2) short

pub returns-clause-carried_out : goal.returns-clause-carried_out
returns-clause-carried_out g c =
    replay_made (g.F.Folder.holds c.args.files.now) (string_bytes c.args.spec.now) (string_bytes c.args.script.now) c.in_ok-inputs.inputs c.in_ok-text.text.items (rw (c.from_ref.ensures.value, c.from_ref-2.ensures.value) at c.in_ok-inputs.ensures.read) c.in_ok-text.ensures
