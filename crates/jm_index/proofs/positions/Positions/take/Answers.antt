use Rattle.std.proofs.Common.{refl}
use Rattle.jm_index.proofs.PositionLemmas.{put_param_pair}
use Rattle.jm_index.proofs.positions.Positions.take.Goals as goal

pub returns-in-Two-clause-put : goal.returns-in-Two-clause-put
returns-in-Two-clause-put c = rw c.in-Two.is (put_param_pair _ _ _ _ refl refl c.remove.ensures.updates.0)
