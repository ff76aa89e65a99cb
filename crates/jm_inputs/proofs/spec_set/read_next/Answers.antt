use Rattle.jm_inputs.specs.Inputs.{asks_families}
use Rattle.std.proofs.Common.{◌≡◌, ℕ, length, IfErr, subst, arith}
use Rattle.std.proofs.lemmas.Result.{err_from_is_err_and}
use Rattle.jm_inputs.specs.Sources.{Named}
use Rattle.jm_inputs.specs.Causes.{IsNoSpec, IsNoSpecIn}
use Rattle.jm_inputs.specs.Reading.{specs_in}
use Rattle.jm_inputs.proofs.JobLemmas.{for_err, spec_from, spec_not_loaded}
use Rattle.jm_inputs.proofs.spec_set.read_next.Goals as goal

pub returns-in_err-bytes-clause-err : goal.returns-in_err-bytes-clause-err
returns-in_err-bytes-clause-err g c =
    let p = err_from_is_err_and c.from_residual.result c.from_residual.ensures.1 in
    let many : c.len-number.result ≡ length c.args.spec_set.now.specs.items = omega (arith, c.len-number.ensures, c.args.spec_set.now.specs.ok.0) in
    let there : IfErr c.from_residual.result (IsNoSpec (g.F.Folder.holds c.args.files.now) (asks_families c.args.purpose) (specs_in c.args.spec_set.now) c.args.before c.len-number.result (Named c.args.name.now)) =
    rw (p.1, p.2) (spec_not_loaded (g.F.Folder.holds c.args.files.now) c.args.name.now (asks_families c.args.purpose) (specs_in c.args.spec_set.now) c.args.before c.len-number.result _ (rw c.too_long.ensures at c.in_err-bytes.ensures.err)) in
    subst (λ (n : ℕ). IfErr c.from_residual.result (IsNoSpec (g.F.Folder.holds c.args.files.now) (asks_families c.args.purpose) (specs_in c.args.spec_set.now) c.args.before n (Named c.args.name.now))) many there

pub returns-clause-err : goal.returns-clause-err
returns-clause-err g c =
    let many : c.len-number.result ≡ length c.args.spec_set.now.specs.items = omega (arith, c.len-number.ensures, c.args.spec_set.now.specs.ok.0) in
    let err = rw c.as_slice.ensures.value at c.read_bytes.ensures.err in
    for_err (IsNoSpecIn (asks_families c.args.purpose) (specs_in c.args.spec_set.now) c.len-number.result c.in_ok-bytes.bytes.items) (IsNoSpec (g.F.Folder.holds c.args.files.now) (asks_families c.args.purpose) (specs_in c.args.spec_set.now) c.args.before (length c.args.spec_set.now.specs.items) (Named c.args.name.now)) c.read_bytes.result
    (λ status h. spec_from (g.F.Folder.holds c.args.files.now) (asks_families c.args.purpose) (specs_in c.args.spec_set.now) c.args.before (length c.args.spec_set.now.specs.items) (Named c.args.name.now) c.in_ok-bytes.bytes.items c.in_ok-bytes.ensures.held status
    (subst (λ (n : ℕ). IsNoSpecIn (asks_families c.args.purpose) (specs_in c.args.spec_set.now) n c.in_ok-bytes.bytes.items status) many h)) err
