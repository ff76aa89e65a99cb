use Rattle.std.proofs.Common.{None, false, length, refl, arith}
use Rattle.std.proofs.lemmas.Result.{err_from_is_err_and}
use Rattle.jm_inputs.specs.Sources.{Given}
use Rattle.jm_inputs.specs.Reading.{specs_in}
use Rattle.jm_inputs.proofs.JobLemmas.{spec_from}
use Rattle.jm_inputs.proofs.SpecSetLemmas.{empty_spec_set, spec_set_turn, spec_set_ends, spec_set_count, whole_spec_set}
use Rattle.jm_inputs.proofs.spec_set.given_specifications.Goals as goal

pub loop-file-init : goal.loop-file-init
loop-file-init c = λ contents. empty_spec_set contents false c.new-spec_set.result c.new-spec_set.ensures.specs c.new-spec_set.ensures.catalogued

pub read_given-requires-clause-bounded : goal.read_given-requires-clause-bounded
read_given-requires-clause-bounded c =
    let many = spec_set_count (λ b. Given b) (λ file. file.items) (λ name. None) false c.args.files.now c.loop-file.file-index c.loop-file.spec_set (omega arith) (c.loop-file.invariant (λ name. None)) in
    omega (arith, many, c.requires, c.loop-file-test.true)

pub read_given-requires-clause-catalogued : goal.read_given-requires-clause-catalogued
read_given-requires-clause-catalogued c = (c.loop-file.invariant (λ name. None)).catalogued

pub returns-in_err-read_given-clause-err : goal.returns-in_err-read_given-clause-err
returns-in_err-read_given-clause-err c = λ contents.
    let p = err_from_is_err_and c.from_residual.result c.from_residual.ensures.1 in
    let bytes = c.as_slice.result.now in
    rw (p.1, p.2) (spec_set_ends (λ b. Given b) (λ file. file.items) contents contents (λ name. refl) false c.args.files.now c.loop-file.file-index c.file-item.result c.loop-file-test.true c.file-item.is bytes c.as_slice.ensures.value
    0 c.loop-file.spec_set _ (c.loop-file.invariant contents)
    (spec_from contents false (specs_in c.loop-file.spec_set) 0 (length c.loop-file.spec_set.specs.items) (Given bytes) bytes refl _ c.in_err-read_given.ensures.err))

pub loop-file-preserved : goal.loop-file-preserved
loop-file-preserved c = λ contents.
    spec_set_turn (λ b. Given b) (λ file. file.items) contents contents (λ name. refl) false c.args.files.now c.loop-file.file-index c.file-item.result c.loop-file-test.true c.file-item.is c.as_slice.result.now c.as_slice.ensures.value
    c.loop-file.spec_set _ (c.loop-file.invariant contents) (record { bytes = c.as_slice.result.now; given = refl; next = c.in_ok-read_given.ensures.read })

pub returns-clause-read : goal.returns-clause-read
returns-clause-read c = λ contents. whole_spec_set (λ b. Given b) (λ file. file.items) contents false c.args.files.now c.loop-file.file-index c.loop-file.spec_set c.loop-file-test.false (c.loop-file.invariant contents)
