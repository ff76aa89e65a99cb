use Rattle.std.proofs.lemmas.Result.{err_from_is_err_and}
use Rattle.jm_reading.proofs.TokenLemmas.{accepted_mark}
use Rattle.jm_reading.proofs.LoopLemmas.{fails_too}
use Rattle.jm_reading.proofs.cursor.Cursor.mark.Goals as goal

pub returns-in_err-accept-clause-reads : goal.returns-in_err-accept-clause-reads
returns-in_err-accept-clause-reads c =
    let p = err_from_is_err_and c.from_residual.result c.from_residual.ensures.1 in
    rw (p.1, p.2) (fails_too _ _ _ c.in_err-accept.ensures.reads (accepted_mark c.args.self.now.bytes.now c.args.mark.now c.args.self.now.rest.now _ _ c.is_mark_at.ensures))

pub returns-clause-reads : goal.returns-clause-reads
returns-clause-reads c =
    accepted_mark c.args.self.now.bytes.now c.args.mark.now c.args.self.now.rest.now _ _ c.is_mark_at.ensures c.in_ok-accept.ensures.reads
