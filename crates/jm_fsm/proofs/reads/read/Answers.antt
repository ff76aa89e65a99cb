use Rattle.std.proofs.lemmas.Result.{err_from_is_err_and}
use Rattle.jm_fsm.proofs.ReadLemmas.{read_err, read_ok, read_none}
use Rattle.jm_fsm.proofs.reads.read.Goals as goal

pub returns-in_err-parts-clause-err : goal.returns-in_err-parts-clause-err
returns-in_err-parts-clause-err c =
    let p = err_from_is_err_and c.from_residual.result c.from_residual.ensures.1 in
    rw (p.1, p.2) (read_none c.args.bytes.now c.args.tokens.now c.args.table.now c.in_err-parts.field-0.0 (rw (c.new-cursor.ensures.bytes, c.new-cursor.ensures.rest) at c.in_err-parts.ensures.gives))

pub returns-clause-ok : goal.returns-clause-ok
returns-clause-ok c =
    let spelled = rw (c.new-cursor.ensures.bytes, c.new-cursor.ensures.rest) at c.in_ok-parts.ensures.gives in
    read_ok c.args.bytes.now c.args.tokens.now c.args.table.now c.in_ok-parts.parts spelled c.machine_of.result
    (rw c.as_slice.ensures at c.machine_of.ensures.ok) (rw c.as_slice.ensures at c.machine_of.ensures.checked)

pub returns-clause-err : goal.returns-clause-err
returns-clause-err c =
    let spelled = rw (c.new-cursor.ensures.bytes, c.new-cursor.ensures.rest) at c.in_ok-parts.ensures.gives in
    read_err c.args.bytes.now c.args.tokens.now c.args.table.now c.in_ok-parts.parts spelled c.machine_of.result (rw c.as_slice.ensures at c.machine_of.ensures.checked)
