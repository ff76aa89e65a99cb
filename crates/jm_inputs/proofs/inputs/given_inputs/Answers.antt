use Rattle.std.proofs.Common.{None, true, false, refl, inl, length, arith}
use Rattle.std.specs.Prelude.{map}
use Rattle.std.proofs.lemmas.Result.{err_from_is_err_and}
use Rattle.jm_inputs.specs.Sources.{Given}
use Rattle.jm_inputs.specs.Commands.{given_files}
use Rattle.jm_inputs.proofs.InputLemmas.{length-sources}
use Rattle.jm_inputs.proofs.SpecSetLemmas.{spec_set_length}
use Rattle.jm_inputs.proofs.StopLemmas.{stopped_behind}
use Rattle.jm_inputs.proofs.inputs.given_inputs.Goals as goal

pub given_scripts-requires-clause-catalogued : goal.given_scripts-requires-clause-catalogued
given_scripts-requires-clause-catalogued c = (c.in_ok-spec_set.ensures.read (λ name. None)).catalogued

pub returns-in_err-spec_set-clause-err : goal.returns-in_err-spec_set-clause-err
returns-in_err-spec_set-clause-err c = λ contents.
    let p = err_from_is_err_and c.from_residual.result c.from_residual.ensures.1 in
    rw (p.1, p.2) (inl (c.in_err-spec_set.ensures.err contents))

pub returns-in_err-scripts-clause-err : goal.returns-in_err-scripts-clause-err
returns-in_err-scripts-clause-err c = λ contents.
    let p = err_from_is_err_and c.from_residual-in_err-scripts.result c.from_residual-in_err-scripts.ensures.1 in
    let specs = map (λ file. file.items) c.args.specs.now in
    let scripts = map (λ file. file.items) c.args.scripts.now in
    let read = c.in_ok-spec_set.ensures.read contents in
    let many = spec_set_length (λ b. Given b) (λ file. file.items) contents false c.args.specs.now c.in_ok-spec_set.spec_set read in
    rw (p.1, p.2) (stopped_behind contents contents (λ name. refl) true 0 0 (length c.in_ok-spec_set.spec_set.specs.items) (given_files specs) (given_files scripts) c.in_ok-spec_set.spec_set _ read (omega (arith, many, length-sources (λ b. Given b) (λ file. file.items) c.args.specs.now)) (c.in_err-scripts.ensures.err contents))

pub returns-clause-read : goal.returns-clause-read
returns-clause-read c = λ contents. record { spec_set = c.in_ok-spec_set.ensures.read contents; read = c.in_ok-scripts.ensures.read contents }
