use Rattle.std.proofs.Common.{None, true, length, refl, arith}
use Rattle.std.specs.Prelude.{map}
use Rattle.std.proofs.lemmas.Result.{err_from_is_err_and}
use Rattle.jm_inputs.specs.Sources.{Given}
use Rattle.jm_inputs.specs.Commands.{given_files}
use Rattle.jm_inputs.specs.Reading.{specs_in}
use Rattle.jm_inputs.proofs.JobLemmas.{script_from}
use Rattle.jm_inputs.proofs.ScriptLemmas.{no_scripts, scripts_turn, scripts_end, scripts_count, scripts_length, whole_scripts, in_order, not_in_order}
use Rattle.jm_inputs.proofs.scripts.given_scripts.Goals as goal

pub loop-file-init : goal.loop-file-init
loop-file-init c = λ contents. no_scripts contents true (specs_in c.args.spec_set.now) 0 c.new-scripts.result c.new-scripts.ensures.list c.new-scripts.ensures.objects c.new-scripts.ensures.count c.new-scripts.ensures.cuts c.new-scripts.ensures.posted (c.new-scripts.ensures.counted (specs_in c.args.spec_set.now))

pub read_given-requires-clause-bounded : goal.read_given-requires-clause-bounded
read_given-requires-clause-bounded c =
    let many = scripts_count (λ b. Given b) (λ file. file.items) (λ name. None) true (specs_in c.args.spec_set.now) 0 c.args.files.now c.loop-file.file-index c.loop-file.scripts (omega arith) (c.loop-file.invariant (λ name. None)) in
    omega (arith, many, c.requires.bounded, c.loop-file-test.true)

pub read_given-requires-clause-counted : goal.read_given-requires-clause-counted
read_given-requires-clause-counted c = (c.loop-file.invariant (λ name. None)).counted

pub returns-in_err-read_given-clause-err : goal.returns-in_err-read_given-clause-err
returns-in_err-read_given-clause-err c = λ contents.
    let p = err_from_is_err_and c.from_residual.result c.from_residual.ensures.1 in
    let bytes = c.as_slice.result.now in
    let specs = specs_in c.args.spec_set.now in
    let files = length c.args.spec_set.now.specs.items in
    let old = c.loop-file.scripts in
    rw (p.1, p.2) (scripts_end (λ b. Given b) (λ file. file.items) contents contents (λ name. refl) true specs files 0 c.args.files.now c.loop-file.file-index c.file-item.result c.loop-file-test.true c.file-item.is bytes c.as_slice.ensures.value
    old _ (c.loop-file.invariant contents)
    (script_from contents true specs files old.count old.objects (length old.list.items) (Given bytes) bytes refl _ c.in_err-read_given.ensures.err))

pub loop-file-preserved : goal.loop-file-preserved
loop-file-preserved c = λ contents.
    scripts_turn (λ b. Given b) (λ file. file.items) contents contents (λ name. refl) true (specs_in c.args.spec_set.now) (length c.args.spec_set.now.specs.items) 0 c.args.files.now c.loop-file.file-index c.file-item.result c.loop-file-test.true c.file-item.is c.as_slice.result.now c.as_slice.ensures.value
    c.loop-file.scripts _ (c.loop-file.invariant contents) (record { bytes = c.as_slice.result.now; given = refl; next = c.in_ok-read_given.ensures.read })

pub check_order-requires : goal.check_order-requires
check_order-requires c =
    let files = c.args.files.now in
    let whole = whole_scripts (λ b. Given b) (λ file. file.items) (λ name. None) true (specs_in c.args.spec_set.now) 0 files c.loop-file.file-index c.loop-file.scripts c.loop-file-test.false (c.loop-file.invariant (λ name. None)) in
    let many = scripts_length (λ b. Given b) (λ file. file.items) (λ name. None) true (specs_in c.args.spec_set.now) 0 files c.loop-file.scripts whole in
    rw c.as_slice-2.ensures.value (omega (arith, many, whole.counted.cut, c.requires.bounded))

pub returns-in_err-check_order-clause-err : goal.returns-in_err-check_order-clause-err
returns-in_err-check_order-clause-err c = λ contents.
    let p = err_from_is_err_and c.from_residual-in_err-check_order.result c.from_residual-in_err-check_order.ensures.1 in
    let files = c.args.files.now in
    let specs = specs_in c.args.spec_set.now in
    let whole = whole_scripts (λ b. Given b) (λ file. file.items) contents true specs 0 files c.loop-file.file-index c.loop-file.scripts c.loop-file-test.false (c.loop-file.invariant contents) in
    rw (p.1, p.2) (not_in_order contents true specs (length c.args.spec_set.now.specs.items) 0 (given_files (map (λ file. file.items) files)) c.loop-file.scripts whole _ (rw c.as_slice-2.ensures.value at c.in_err-check_order.ensures.err))

pub returns-clause-read : goal.returns-clause-read
returns-clause-read c = λ contents.
    let files = c.args.files.now in
    let specs = specs_in c.args.spec_set.now in
    let whole = whole_scripts (λ b. Given b) (λ file. file.items) contents true specs 0 files c.loop-file.file-index c.loop-file.scripts c.loop-file-test.false (c.loop-file.invariant contents) in
    in_order contents true specs (length c.args.spec_set.now.specs.items) 0 (given_files (map (λ file. file.items) files)) c.loop-file.scripts whole (rw c.as_slice-2.ensures.value at c.in_ok-check_order.ensures.sound)
