use Rattle.std.specs.Prelude.{map, string_bytes}
use Rattle.std.proofs.lemmas.Result.{err_from_is_err_and}
use Rattle.jm_inputs.specs.Causes.{short}
use Rattle.jm_top.proofs.CommandLemmas.{check_made}
use Rattle.jm_inputs.proofs.StopLemmas.{check_stops}
use Rattle.jm_top.proofs.job.checked.Goals as goal

pub returns-in_err-spec_set-clause-carried_out : goal.returns-in_err-spec_set-clause-carried_out
returns-in_err-spec_set-clause-carried_out g c =
    let p = err_from_is_err_and c.from_residual.result c.from_residual.ensures.1 in
    rw (p.1, p.2) (check_stops (g.F.Folder.holds c.args.files.now) (map string_bytes c.args.specs.now) _ c.in_err-spec_set.ensures.err)

pub declared-requires : goal.declared-requires
declared-requires g c = rw c.as_slice.ensures.value c.in_ok-spec_set.ensures.read.catalogued.many

pub returns-in_err-text-clause-carried_out : goal.returns-in_err-text-clause-carried_out
returns-in_err-text-clause-carried_out g c =
    let p = err_from_is_err_and c.from_residual-in_err-text.result c.from_residual-in_err-text.ensures.1 in
    rw (p.1, p.2) short

pub returns-clause-carried_out : goal.returns-clause-carried_out
returns-clause-carried_out g c =
    check_made (g.F.Folder.holds c.args.files.now) (map string_bytes c.args.specs.now) c.in_ok-spec_set.spec_set c.in_ok-text.text.items c.in_ok-spec_set.ensures.read (rw c.as_slice.ensures.value at c.in_ok-text.ensures)
