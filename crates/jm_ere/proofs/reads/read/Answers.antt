use Rattle.std.proofs.lemmas.Result.{err_from_is_err_and}
use Rattle.jm_ere.proofs.ReadLemmas.{read_err, read_ok, read_none, read_written}
use Rattle.jm_ere.proofs.reads.read.Goals as goal

pub returns-in_err-nodes-clause-err : goal.returns-in_err-nodes-clause-err
returns-in_err-nodes-clause-err c =
    let p = err_from_is_err_and c.from_residual-in_err-nodes.result c.from_residual-in_err-nodes.ensures.1 in
    rw (p.1, p.2) (read_none c.args.bytes.now c.args.tokens.now c.args.table.now c.in_ok-check_nesting.ensures.ok c.in_err-nodes.field-0.0 c.in_err-nodes.ensures)

pub expression_of-requires : goal.expression_of-requires
expression_of-requires c = rw c.as_slice.ensures (read_written c.args.bytes.now c.args.tokens.now c.args.table.now c.in_ok-check_nesting.ensures.ok c.in_ok-nodes.nodes c.in_ok-nodes.ensures)

pub returns-clause-ok : goal.returns-clause-ok
returns-clause-ok c = read_ok c.args.bytes.now c.args.tokens.now c.args.table.now c.in_ok-check_nesting.ensures.ok c.in_ok-nodes.nodes c.in_ok-nodes.ensures c.expression_of.result
    (rw c.as_slice.ensures at c.expression_of.ensures.ok) (rw c.as_slice.ensures at c.expression_of.ensures.checked)

pub returns-clause-err : goal.returns-clause-err
returns-clause-err c = read_err c.args.bytes.now c.args.tokens.now c.args.table.now c.in_ok-check_nesting.ensures.ok c.in_ok-nodes.nodes c.in_ok-nodes.ensures c.expression_of.result (rw c.as_slice.ensures at c.expression_of.ensures.checked)
