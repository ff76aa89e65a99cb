use Rattle.std.proofs.Common.{◌∙◌, ◌+◌, length, sym, ap, inl, Err, arith}
use Rattle.std.specs.Prelude.{map, string_bytes}
use Rattle.std.proofs.lemmas.Result.{err_from_is_err_and}
use Rattle.jm_inputs.specs.Sources.{Named}
use Rattle.jm_inputs.specs.Commands.{named}
use Rattle.jm_inputs.specs.Reading.{specs_in}
use Rattle.jm_inputs.proofs.OneReadingLemmas.{same_err}
use Rattle.jm_inputs.proofs.InputLemmas.{length-sources}
use Rattle.jm_inputs.proofs.JobLemmas.{risen_before}
use Rattle.jm_inputs.proofs.SpecSetLemmas.{spec_set_length}
use Rattle.jm_inputs.proofs.StopLemmas.{scripts_before, stopped_behind}
use Rattle.jm_inputs.proofs.inputs.read_inputs.Goals as goal

pub read_scripts-requires-clause-few_specs : goal.read_scripts-requires-clause-few_specs
read_scripts-requires-clause-few_specs g c =
    let many = spec_set_length (λ n. Named n) string_bytes (g.F.Folder.holds c.args.files.now) _ c.args.specs.now c.in_ok-spec_set.spec_set c.in_ok-spec_set.ensures.read in
    omega (arith, many, c.requires.few_specs)

pub read_scripts-requires-clause-catalogued : goal.read_scripts-requires-clause-catalogued
read_scripts-requires-clause-catalogued g c = c.in_ok-spec_set.ensures.read.catalogued

pub returns-in_err-spec_set-clause-err : goal.returns-in_err-spec_set-clause-err
returns-in_err-spec_set-clause-err g c =
    let p = err_from_is_err_and c.from_residual.result c.from_residual.ensures.1 in
    rw (p.1, p.2) (inl c.in_err-spec_set.ensures.err)

pub returns-in_err-scripts-clause-err : goal.returns-in_err-scripts-clause-err
returns-in_err-scripts-clause-err g c =
    let p = err_from_is_err_and c.from_residual-in_err-scripts.result c.from_residual-in_err-scripts.ensures.1 in
    let many = spec_set_length (λ n. Named n) string_bytes (g.F.Folder.holds c.args.files.now) _ c.args.specs.now c.in_ok-spec_set.spec_set c.in_ok-spec_set.ensures.read in
    rw (p.1, p.2) (stopped_behind (g.F.Folder.holds c.args.files.now) (g.F.Folder.holds c.read_specifications.new.files) c.read_specifications.ensures.unchanged c.args.setting.ordered c.args.setting.files c.args.setting.steps (c.args.setting.files + length c.in_ok-spec_set.spec_set.specs.items) (named (map string_bytes c.args.specs.now)) (named (map string_bytes c.args.scripts.now)) c.in_ok-spec_set.spec_set _
    c.in_ok-spec_set.ensures.read (omega (arith, many, length-sources (λ n. Named n) string_bytes c.args.specs.now)) c.in_err-scripts.ensures.err)

pub returns-in_err-scripts-clause-read_failed : goal.returns-in_err-scripts-clause-read_failed
returns-in_err-scripts-clause-read_failed g c = λ file is.
    let p = err_from_is_err_and c.from_residual-in_err-scripts.result c.from_residual-in_err-scripts.ensures.1 in
    let same = same_err (sym p.1 ∙ is) in
    risen_before c.read_specifications.ensures.never_falls (c.in_err-scripts.ensures.read_failed file (ap (λ e. Err e) (sym p.2 ∙ same)))

pub returns-clause-read : goal.returns-clause-read
returns-clause-read g c = record {
  spec_set = c.in_ok-spec_set.ensures.read;
  read = scripts_before (g.F.Folder.holds c.args.files.now) (g.F.Folder.holds c.read_specifications.new.files) c.read_specifications.ensures.unchanged c.args.setting.ordered (specs_in c.in_ok-spec_set.spec_set) c.args.setting.steps (named (map string_bytes c.args.scripts.now)) c.in_ok-scripts.scripts c.in_ok-scripts.ensures.read;
}
