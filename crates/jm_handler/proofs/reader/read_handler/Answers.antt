use Rattle.std.proofs.Common.{◌∙◌}
use Rattle.jm_handler.proofs.CutLemmas.{from_place}
use Rattle.jm_handler.proofs.BlockLemmas.{adds_some, adds_none, Says-at, Says-end, within_all}
use Rattle.jm_handler.proofs.reader.read_handler.Goals as goal
use Rattle.jm_handler.proofs.reader.read_handler.Goals.{in-Some+in_ok-push, in_default}

pub loop-start-preserved : goal.loop-start-preserved
loop-start-preserved c =
    let cut = from_place c.args.tokens.now c.loop-start.start in
    record {
      within = within_all _ _ _ _ _ cut c.statement_length-end.ensures c.loop-start.invariant.within;
      so_far =
          Says-at _ _ _ _ _ _ c.loop-start.handler c.match-branch-2.handler cut c.statement_length-end.ensures
          (elim c.match-branch-2.branch [
            | in-Some+in_ok-push w ↦ adds_some _ _ _ _ _ _ _ c.in_ok-statement.ensures w.in-Some.is (w.handler-is ∙ w.in_ok-push.ensures)
            | in_default w ↦ adds_none _ _ _ _ _ _ c.in_ok-statement.ensures w.in_default.is w.handler-is
          ])
          c.loop-start.invariant.so_far;
    }

pub returns : goal.returns
returns c = Says-end _ _ _ _ _ c.loop-start-test.false c.loop-start.invariant.so_far
