use Rattle.std.specs.Prelude.{map, string_bytes}
use Rattle.std.proofs.Common.{◌∙◌, sym, ap, Err, false, arith}
use Rattle.std.proofs.lemmas.Result.{err_from_is_err_and}
use Rattle.std.proofs.lemmas.List.{length-map}
use Rattle.jm_inputs.specs.Sources.{Named}
use Rattle.jm_inputs.specs.Causes.{short}
use Rattle.jm_inputs.specs.Commands.{named}
use Rattle.jm_inputs.specs.Reading.{specs_in}
use Rattle.jm_inputs.proofs.OneReadingLemmas.{same_err}
use Rattle.jm_inputs.proofs.JobLemmas.{risen_before}
use Rattle.jm_inputs.proofs.SpecSetLemmas.{spec_set_length}
use Rattle.jm_inputs.proofs.ScriptLemmas.{scripts_length}
use Rattle.jm_inputs.proofs.StopLemmas.{inputs_before, stops_before, audit_stops, audit_unloaded}
use Rattle.jm_top.proofs.CommandLemmas.{audit_made}
use Rattle.jm_top.proofs.job.audited.Goals as goal

pub returns-in_err-bytes-clause-carried_out : goal.returns-in_err-bytes-clause-carried_out
returns-in_err-bytes-clause-carried_out g c =
    let p = err_from_is_err_and c.from_residual.result c.from_residual.ensures.1 in
    rw (p.1, p.2) (audit_unloaded (g.F.Folder.holds c.args.files.now) (string_bytes c.args.history.now) (map string_bytes c.args.specs.now) (map string_bytes c.args.scripts.now) _ (rw c.as_str.ensures.value at c.in_err-bytes.ensures.err))

pub read_inputs-requires-clause-few_specs : goal.read_inputs-requires-clause-few_specs
read_inputs-requires-clause-few_specs g c = omega (arith, c.requires.specs.1, length-map c.args.specs.now string_bytes)

pub read_inputs-requires-clause-few_scripts : goal.read_inputs-requires-clause-few_scripts
read_inputs-requires-clause-few_scripts g c = omega (arith, c.requires.scripts.1, length-map c.args.scripts.now string_bytes)

pub returns-in_err-inputs-clause-carried_out : goal.returns-in_err-inputs-clause-carried_out
returns-in_err-inputs-clause-carried_out g c =
    let p = err_from_is_err_and c.from_residual-in_err-inputs.result c.from_residual-in_err-inputs.ensures.1 in
    let contents = g.F.Folder.holds c.args.files.now in
    let later = g.F.Folder.holds c.load.new.files in
    let specs = map string_bytes c.args.specs.now in
    let scripts = map string_bytes c.args.scripts.now in
    rw (p.1, p.2) (audit_stops contents (string_bytes c.args.history.now) c.in_ok-bytes.bytes.items specs scripts _ (rw c.as_str.ensures.value at c.in_ok-bytes.ensures.held) c.in_ok-bytes.ensures.within
    (stops_before contents later c.load.ensures.unchanged false 1 198000 (named specs) (named scripts) _ c.in_err-inputs.ensures.err))

pub returns-in_err-inputs-clause-read_failed : goal.returns-in_err-inputs-clause-read_failed
returns-in_err-inputs-clause-read_failed g c = λ file is.
    let p = err_from_is_err_and c.from_residual-in_err-inputs.result c.from_residual-in_err-inputs.ensures.1 in
    let same = same_err (sym p.1 ∙ is) in
    risen_before c.load.ensures.never_falls (c.in_err-inputs.ensures.read_failed file (ap (λ e. Err e) (sym p.2 ∙ same)))

pub verdict_on-requires-clause-specs : goal.verdict_on-requires-clause-specs
verdict_on-requires-clause-specs g c =
    let many = spec_set_length (λ n. Named n) string_bytes (g.F.Folder.holds c.load.new.files) _ c.args.specs.now c.in_ok-inputs.inputs.spec_set c.in_ok-inputs.ensures.read.spec_set in
    omega (arith, many, c.requires.specs.1, length-map c.args.specs.now string_bytes)

pub verdict_on-requires-clause-scripts : goal.verdict_on-requires-clause-scripts
verdict_on-requires-clause-scripts g c =
    let many = scripts_length (λ n. Named n) string_bytes (g.F.Folder.holds c.load.new.files) false (specs_in c.in_ok-inputs.inputs.spec_set) 198000 c.args.scripts.now c.in_ok-inputs.inputs.scripts c.in_ok-inputs.ensures.read.read.read in
    omega (arith, many, c.requires.scripts.1, length-map c.args.scripts.now string_bytes)

pub verdict_on-requires-clause-catalogued : goal.verdict_on-requires-clause-catalogued
verdict_on-requires-clause-catalogued g c = c.in_ok-inputs.ensures.read.spec_set.catalogued

pub verdict_on-requires-clause-counted : goal.verdict_on-requires-clause-counted
verdict_on-requires-clause-counted g c = c.in_ok-inputs.ensures.read.read.read.counted

pub returns-in_err-text-clause-carried_out : goal.returns-in_err-text-clause-carried_out
returns-in_err-text-clause-carried_out g c =
    let p = err_from_is_err_and c.from_residual-in_err-text.result c.from_residual-in_err-text.ensures.1 in
    rw (p.1, p.2) short

pub returns-clause-carried_out : goal.returns-clause-carried_out
returns-clause-carried_out g c =
    let contents = g.F.Folder.holds c.args.files.now in
    let later = g.F.Folder.holds c.load.new.files in
    let specs = map string_bytes c.args.specs.now in
    let scripts = map string_bytes c.args.scripts.now in
    audit_made contents (string_bytes c.args.history.now) c.in_ok-bytes.bytes.items specs scripts c.in_ok-inputs.inputs c.in_ok-text.text.items (rw c.as_str.ensures.value at c.in_ok-bytes.ensures.held) c.in_ok-bytes.ensures.within
    (inputs_before contents later c.load.ensures.unchanged false 198000 (named specs) (named scripts) c.in_ok-inputs.inputs c.in_ok-inputs.ensures.read) (rw c.as_slice.ensures.value at c.in_ok-text.ensures)
