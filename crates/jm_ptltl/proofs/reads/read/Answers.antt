use Rattle.std.proofs.Common.{◌∙◌}
use Rattle.std.proofs.lemmas.Result.{err_from_is_err_and}
use Rattle.jm_ptltl.proofs.FaultLemmas.{read_err, read_ok, read_none}
use Rattle.jm_ptltl.proofs.reads.read.Goals as goal

pub returns-in_err-nodes-clause-err : goal.returns-in_err-nodes-clause-err
returns-in_err-nodes-clause-err c =
    let p = err_from_is_err_and c.from_residual-in_err-nodes.result c.from_residual-in_err-nodes.ensures.1 in
    rw (p.1, p.2) (read_none c.args.bytes.now c.args.tokens.now c.args.table.now c.in_ok-check_nesting.ensures.ok c.in_err-nodes.field-0.0 (rw (c.new-cursor.ensures.bytes, c.new-cursor.ensures.rest) at c.in_err-nodes.ensures))

pub returns-clause-ok : goal.returns-clause-ok
returns-clause-ok c =
    let gives = rw (c.new-cursor.ensures.bytes, c.new-cursor.ensures.rest) at c.in_ok-nodes.ensures in
    let f = gives.0 in
    let nodes = c.as_slice.ensures ∙ gives.2 in
    read_ok c.args.bytes.now c.args.tokens.now c.args.table.now c.in_ok-check_nesting.ensures.ok f gives.1 c.past_of.result (c.past_of.ensures.said f nodes) (c.past_of.ensures.checked f nodes)

pub returns-clause-err : goal.returns-clause-err
returns-clause-err c =
    let gives = rw (c.new-cursor.ensures.bytes, c.new-cursor.ensures.rest) at c.in_ok-nodes.ensures in
    let f = gives.0 in
    let nodes = c.as_slice.ensures ∙ gives.2 in
    read_err c.args.bytes.now c.args.tokens.now c.args.table.now c.in_ok-check_nesting.ensures.ok f gives.1 c.past_of.result (c.past_of.ensures.checked f nodes)
