use Rattle.std.proofs.Common.{◌≡◌, ◌+◌, ℕ, length, IfErr, subst, arith}
use Rattle.std.proofs.lemmas.Result.{err_from_is_err_and}
use Rattle.jm_inputs.specs.Sources.{Named}
use Rattle.jm_inputs.specs.Causes.{IsNoScript}
use Rattle.jm_inputs.specs.Reading.{specs_in}
use Rattle.jm_inputs.proofs.JobLemmas.{script_not_loaded}
use Rattle.jm_inputs.proofs.scripts.read_next.Goals as goal

pub returns-in_err-bytes-clause-err : goal.returns-in_err-bytes-clause-err
returns-in_err-bytes-clause-err g c =
    let p = err_from_is_err_and c.from_residual.result c.from_residual.ensures.1 in
    let old = c.args.scripts.now in
    let specs = specs_in c.args.spec_set.now in
    let many : c.len-number.result ≡ length c.args.scripts.now.list.items = omega (arith, c.len-number.ensures, c.args.scripts.now.list.ok.0) in
    let before = c.args.setting.files in
    let ordered = c.args.setting.ordered in
    let files : before + c.len.result ≡ before + length c.args.spec_set.now.specs.items = omega (arith, c.len.ensures, c.args.spec_set.now.specs.ok.0) in
    let there : IfErr c.from_residual.result (IsNoScript (g.F.Folder.holds c.args.files.now) ordered specs (before + c.len.result) old.count old.objects c.len-number.result (Named c.args.name.now)) =
    rw (p.1, p.2) (script_not_loaded (g.F.Folder.holds c.args.files.now) c.args.name.now ordered specs (before + c.len.result) old.count old.objects c.len-number.result _ (rw c.too_long.ensures at c.in_err-bytes.ensures.err)) in
    subst (λ (n : ℕ). IfErr c.from_residual.result (IsNoScript (g.F.Folder.holds c.args.files.now) ordered specs n old.count old.objects (length old.list.items) (Named c.args.name.now))) files
    (subst (λ (n : ℕ). IfErr c.from_residual.result (IsNoScript (g.F.Folder.holds c.args.files.now) ordered specs (before + c.len.result) old.count old.objects n (Named c.args.name.now))) many there)
