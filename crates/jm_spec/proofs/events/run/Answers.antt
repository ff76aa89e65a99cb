use Rattle.std.proofs.Common.{refl, ap}
use Rattle.std.proofs.lemmas.Result.{err_from_is_err_and}
use Rattle.jm_reading.proofs.LoopLemmas.{fails_too}
use Rattle.jm_spec.specs.Reading.{passed}
use Rattle.jm_spec.specs.Rules.{run_at}
use Rattle.jm_spec.specs.Runs.{member_length}
use Rattle.jm_spec.proofs.events.run.Goals as goal

pub returns-in_err-n-clause-reads : goal.returns-in_err-n-clause-reads
unfolding run_at
returns-in_err-n-clause-reads c =
    let p = err_from_is_err_and c.from_residual.result c.from_residual.ensures.1 in
    let old = c.args.cursor.now in
    rw (p.1, p.2) (fails_too c.in_err-n.field-0.0 (member_length old.bytes.now old.rest.now) (run_at old.bytes.now old.rest.now) c.in_err-n.ensures.value (λ none. ap (passed old.rest.now) none))

pub returns-clause-reads : goal.returns-clause-reads
unfolding run_at
returns-clause-reads c = rw (c.in_ok-n.ensures.value, c.advance.ensures.rest) refl
