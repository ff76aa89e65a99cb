use Rattle.std.proofs.Common.{◌∙◌, sym, ap, Err}
use Rattle.std.specs.Prelude.{string_bytes}
use Rattle.std.proofs.lemmas.Result.{err_from_is_err_and}
use Rattle.jm_inputs.specs.Sources.{Named}
use Rattle.jm_inputs.proofs.OneReadingLemmas.{same_err}
use Rattle.jm_inputs.proofs.JobLemmas.{risen_before}
use Rattle.jm_inputs.proofs.SpecSetLemmas.{spec_set_length}
use Rattle.jm_top.proofs.CommandLemmas.{sweep_carried_out}
use Rattle.jm_inputs.proofs.StopLemmas.{not_loaded_before, given_before, sweep_stops, sweep_unloaded}
use Rattle.jm_top.proofs.job.swept.Goals as goal

pub returns-in_err-spec_set-clause-carried_out : goal.returns-in_err-spec_set-clause-carried_out
returns-in_err-spec_set-clause-carried_out g c =
    let p = err_from_is_err_and c.from_residual.result c.from_residual.ensures.1 in
    rw (p.1, p.2) (sweep_stops (g.F.Folder.holds c.args.files.now) (string_bytes c.args.spec.now) (string_bytes c.args.recording.now) _ (rw c.from_ref.ensures.value at c.in_err-spec_set.ensures.err))

pub returns-in_err-bytes-clause-carried_out : goal.returns-in_err-bytes-clause-carried_out
returns-in_err-bytes-clause-carried_out g c =
    let p = err_from_is_err_and c.from_residual-in_err-bytes.result c.from_residual-in_err-bytes.ensures.1 in
    let contents = g.F.Folder.holds c.args.files.now in
    let later = g.F.Folder.holds c.read_specifications.new.files in
    rw (p.1, p.2) (sweep_unloaded contents (string_bytes c.args.spec.now) (string_bytes c.args.recording.now) c.in_ok-spec_set.spec_set _ (rw c.from_ref.ensures.value at c.in_ok-spec_set.ensures.read)
    (not_loaded_before contents later c.read_specifications.ensures.unchanged _ 1 _ _ _ (rw (c.too_long.ensures, c.as_str.ensures.value) at c.in_err-bytes.ensures.err)))

pub returns-in_err-bytes-clause-read_failed : goal.returns-in_err-bytes-clause-read_failed
returns-in_err-bytes-clause-read_failed g c = λ file is.
    let p = err_from_is_err_and c.from_residual-in_err-bytes.result c.from_residual-in_err-bytes.ensures.1 in
    let same = same_err (sym p.1 ∙ is) in
    risen_before c.read_specifications.ensures.never_falls (c.in_err-bytes.ensures.read_failed file (ap (λ e. Err e) (sym p.2 ∙ same)))

pub sweep-requires-clause-spec_set : goal.sweep-requires-clause-spec_set
sweep-requires-clause-spec_set g c =
    let many = spec_set_length (λ n. Named n) string_bytes (g.F.Folder.holds c.args.files.now) _ c.from_ref.result.now c.in_ok-spec_set.spec_set c.in_ok-spec_set.ensures.read in
    λ κs within. record { one = many ∙ c.from_ref.ensures.len; catalogued = c.in_ok-spec_set.ensures.read.catalogued }

pub returns-clause-carried_out : goal.returns-clause-carried_out
returns-clause-carried_out g c =
    let contents = g.F.Folder.holds c.args.files.now in
    let later = g.F.Folder.holds c.read_specifications.new.files in
    sweep_carried_out contents (string_bytes c.args.spec.now) (string_bytes c.args.recording.now) c.in_ok-bytes.bytes.items c.in_ok-spec_set.spec_set c.sweep.result (rw c.from_ref.ensures.value at c.in_ok-spec_set.ensures.read)
    (given_before contents later c.read_specifications.ensures.unchanged _ _ (rw c.as_str.ensures.value at c.in_ok-bytes.ensures.held)) (rw c.as_slice.ensures.value at c.sweep.ensures.ok) (rw c.as_slice.ensures.value at c.sweep.ensures.err)
