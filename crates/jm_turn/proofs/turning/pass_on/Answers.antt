use Rattle.std.proofs.Common.{arith}
use Rattle.jm_turn.proofs.TurnSteps.{passes_at}
use Rattle.jm_turn.proofs.turning.pass_on.Goals as goal

pub fetch_add-requires : goal.fetch_add-requires
fetch_add-requires g c =
    let s = c.requires.shape in let a = c.requires.acted in (
      a.table,
      omega arith,
      passes_at _ _ _ _ _ _ _ a.number a.ticket _ _ _ a.entry a.value _ (omega arith) (omega arith) a.holds a.longer a.mine a.fixed,
    )
