use Rattle.std.proofs.Common.{length, arith}
use Rattle.jm_ptltl.proofs.ReaderLemmas.{gives_all}
use Rattle.jm_ptltl.proofs.parse.formula.Goals as goal

pub returns-in-empty : goal.returns-in-empty
returns-in-empty c =
    let tokens = c.args.cursor.now.rest.now in
    gives_all c.args.cursor.now.bytes.now tokens c.part.new.cursor.rest.now c.new-nodes.result c.part.new.nodes c.new-nodes.ensures c.in-empty.len_below (c.in_ok-part.ensures.reads (length tokens) (omega arith))
