use Rattle.std.proofs.Common.{◌∙◌, ◌+◌, length, sym, ap, subst, Err, arith}
use Rattle.std.specs.Prelude.{map, string_bytes}
use Rattle.std.proofs.lemmas.Result.{err_from_is_err_and}
use Rattle.jm_sync.specs.Checks.{sync_of}
use Rattle.jm_inputs.specs.declared.status.Status.{Status}
use Rattle.jm_inputs.specs.Sources.{Named}
use Rattle.jm_inputs.specs.Commands.{named}
use Rattle.jm_inputs.specs.Causes.{IsNoOrder}
use Rattle.jm_inputs.specs.Reading.{specs_in}
use Rattle.jm_inputs.proofs.OneReadingLemmas.{same_err}
use Rattle.jm_inputs.proofs.JobLemmas.{risen_before}
use Rattle.jm_inputs.proofs.ScriptLemmas.{scripts_turn, scripts_end, scripts_count, scripts_length, whole_scripts, in_order, not_in_order}
use Rattle.jm_inputs.proofs.scripts.read_scripts.Goals as goal

pub read_next-requires-clause-bounded : goal.read_next-requires-clause-bounded
read_next-requires-clause-bounded g c =
    let many = scripts_count (λ n. Named n) string_bytes (g.F.Folder.holds c.args.files.now) c.args.setting.ordered (specs_in c.args.spec_set.now) c.args.setting.steps c.args.names.now c.loop-name.name-index c.loop-name.scripts (omega arith) c.loop-name.invariant.read in
    omega (arith, many, c.requires.bounded, c.loop-name-test.true)

pub read_next-requires-clause-counted : goal.read_next-requires-clause-counted
read_next-requires-clause-counted g c = c.loop-name.invariant.read.counted

pub returns-in_err-read_next-clause-err : goal.returns-in_err-read_next-clause-err
returns-in_err-read_next-clause-err g c =
    let p = err_from_is_err_and c.from_residual.result c.from_residual.ensures.1 in
    rw (p.1, p.2) (scripts_end (λ n. Named n) string_bytes (g.F.Folder.holds c.args.files.now) (g.F.Folder.holds c.loop-name.files) c.loop-name.invariant.files.same c.args.setting.ordered (specs_in c.args.spec_set.now) (c.args.setting.files + length c.args.spec_set.now.specs.items) c.args.setting.steps c.args.names.now c.loop-name.name-index c.name-item.result c.loop-name-test.true c.name-item.is c.as_str.result.now c.as_str.ensures.value
    c.loop-name.scripts _ c.loop-name.invariant.read c.in_err-read_next.ensures.err)

pub returns-in_err-read_next-clause-read_failed : goal.returns-in_err-read_next-clause-read_failed
returns-in_err-read_next-clause-read_failed g c = λ file is.
    let p = err_from_is_err_and c.from_residual.result c.from_residual.ensures.1 in
    let same = same_err (sym p.1 ∙ is) in
    risen_before c.loop-name.invariant.files.never_falls (c.in_err-read_next.ensures.read_failed file (ap (λ e. Err e) (sym p.2 ∙ same)))

pub loop-name-preserved : goal.loop-name-preserved
loop-name-preserved g c = record {
  read = scripts_turn (λ n. Named n) string_bytes (g.F.Folder.holds c.args.files.now) (g.F.Folder.holds c.loop-name.files) c.loop-name.invariant.files.same c.args.setting.ordered (specs_in c.args.spec_set.now) (c.args.setting.files + length c.args.spec_set.now.specs.items) c.args.setting.steps c.args.names.now c.loop-name.name-index c.name-item.result c.loop-name-test.true c.name-item.is c.as_str.result.now c.as_str.ensures.value
      c.loop-name.scripts _ c.loop-name.invariant.read c.in_ok-read_next.ensures.read;
  files = record {
    same = λ other. c.read_next.ensures.files.same other ∙ c.loop-name.invariant.files.same other;
    never_falls = omega (arith, c.loop-name.invariant.files.never_falls, c.read_next.ensures.files.never_falls);
  };
}

pub check_order-requires : goal.check_order-requires
check_order-requires g c =
    let names = c.args.names.now in
    let whole = whole_scripts (λ n. Named n) string_bytes (g.F.Folder.holds c.args.files.now) c.args.setting.ordered (specs_in c.args.spec_set.now) c.args.setting.steps names c.loop-name.name-index c.loop-name.scripts c.loop-name-test.false c.loop-name.invariant.read in
    let many = scripts_length (λ n. Named n) string_bytes (g.F.Folder.holds c.args.files.now) c.args.setting.ordered (specs_in c.args.spec_set.now) c.args.setting.steps names c.loop-name.scripts whole in
    rw c.as_slice.ensures.value (omega (arith, many, whole.counted.cut, c.requires.bounded))

pub returns-in_err-check_order-clause-err : goal.returns-in_err-check_order-clause-err
returns-in_err-check_order-clause-err g c =
    let p = err_from_is_err_and c.from_residual-in_err-check_order.result c.from_residual-in_err-check_order.ensures.1 in
    let names = c.args.names.now in
    let specs = specs_in c.args.spec_set.now in
    let contents = g.F.Folder.holds c.args.files.now in
    let whole = whole_scripts (λ n. Named n) string_bytes contents c.args.setting.ordered specs c.args.setting.steps names c.loop-name.name-index c.loop-name.scripts c.loop-name-test.false c.loop-name.invariant.read in
    rw (p.1, p.2) (not_in_order contents c.args.setting.ordered specs (c.args.setting.files + length c.args.spec_set.now.specs.items) c.args.setting.steps (named (map string_bytes names)) c.loop-name.scripts whole _ (rw c.as_slice.ensures.value at c.in_err-check_order.ensures.err))

pub returns-in_err-check_order-clause-read_failed : goal.returns-in_err-check_order-clause-read_failed
returns-in_err-check_order-clause-read_failed g c = λ file is.
    let p = err_from_is_err_and c.from_residual-in_err-check_order.result c.from_residual-in_err-check_order.ensures.1 in
    let same = same_err (sym p.1 ∙ is) in
    absurd (subst (λ (s : Status). IsNoOrder (sync_of c.as_slice.result.now) s) (sym p.2 ∙ same) c.in_err-check_order.ensures.err)

pub returns-clause-read : goal.returns-clause-read
returns-clause-read g c =
    let names = c.args.names.now in
    let specs = specs_in c.args.spec_set.now in
    let contents = g.F.Folder.holds c.args.files.now in
    let whole = whole_scripts (λ n. Named n) string_bytes contents c.args.setting.ordered specs c.args.setting.steps names c.loop-name.name-index c.loop-name.scripts c.loop-name-test.false c.loop-name.invariant.read in
    in_order contents c.args.setting.ordered specs (c.args.setting.files + length c.args.spec_set.now.specs.items) c.args.setting.steps (named (map string_bytes names)) c.loop-name.scripts whole (rw c.as_slice.ensures.value at c.in_ok-check_order.ensures.sound)
