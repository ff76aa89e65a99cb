use Rattle.std.specs.Prelude.{map}
use Rattle.std.proofs.Common.{◌∙◌, ap, arith}
use Rattle.std.proofs.lemmas.Result.{err_from_is_err_and}
use Rattle.jm_inputs.specs.Commands.{workload_specs, workload_scripts}
use Rattle.jm_inputs.specs.Causes.{short}
use Rattle.jm_inputs.proofs.JobLemmas.{for_err}
use Rattle.jm_inputs.proofs.StopLemmas.{specs_length, scripts_length_of, given_length, inputs_are, gen_stops}
use Rattle.jm_inputs.proofs.inputs.read_workload.Goals as goal

pub returns-in_err-files-clause-err : goal.returns-in_err-files-clause-err
returns-in_err-files-clause-err c = λ contents.
    let p = err_from_is_err_and c.from_residual.result c.from_residual.ensures.1 in
    rw (p.1, p.2) short

pub given_inputs-requires-clause-few_specs : goal.given_inputs-requires-clause-few_specs
given_inputs-requires-clause-few_specs c =
    let many = given_length (λ file. file.items) c.in_ok-files.files.specs.items workload_specs 2 c.in_ok-files.ensures.specs specs_length in
    rw c.as_slice.ensures.value (omega (arith, many))

pub given_inputs-requires-clause-few_scripts : goal.given_inputs-requires-clause-few_scripts
given_inputs-requires-clause-few_scripts c =
    let many = given_length (λ file. file.items) c.in_ok-files.files.scripts.items (workload_scripts c.args.n) 4 c.in_ok-files.ensures.scripts (scripts_length_of c.args.n) in
    rw c.as_slice-2.ensures.value (omega (arith, many))

pub returns-clause-read : goal.returns-clause-read
returns-clause-read c = λ contents.
    inputs_are contents c.args.n (map (λ file. file.items) c.as_slice.result.now) (map (λ file. file.items) c.as_slice-2.result.now) c.given_inputs.result
    (ap (λ vs. map (λ file. file.items) vs) c.as_slice.ensures.value ∙ c.in_ok-files.ensures.specs) (ap (λ vs. map (λ file. file.items) vs) c.as_slice-2.ensures.value ∙ c.in_ok-files.ensures.scripts)
    (c.given_inputs.ensures.read contents)

pub returns-clause-err : goal.returns-clause-err
returns-clause-err c = λ contents.
    for_err _ _ c.given_inputs.result
    (λ status h. gen_stops contents c.args.n (map (λ file. file.items) c.as_slice.result.now) (map (λ file. file.items) c.as_slice-2.result.now) status
    (ap (λ vs. map (λ file. file.items) vs) c.as_slice.ensures.value ∙ c.in_ok-files.ensures.specs) (ap (λ vs. map (λ file. file.items) vs) c.as_slice-2.ensures.value ∙ c.in_ok-files.ensures.scripts) h)
    (c.given_inputs.ensures.err contents)
