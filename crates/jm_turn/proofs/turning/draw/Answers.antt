use Rattle.std.proofs.Common.{arith}
use Rattle.jm_turn.proofs.TurnSteps.{draws_at}
use Rattle.jm_turn.proofs.turning.draw.Goals as goal

pub fetch_add-requires : goal.fetch_add-requires
fetch_add-requires g c = let s = c.requires.shape in let k = c.requires.idle in (k.0, omega arith, draws_at _ _ _ _ _ _ _ _ _ _ _ _ (omega arith) (omega arith) k.1.1)
