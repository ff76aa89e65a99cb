use Rattle.std.proofs.Common.{refl}
use Rattle.jm_index.proofs.PositionLemmas.{put_param_pair}
use Rattle.jm_index.proofs.positions.Positions.put.Goals as goal

pub returns-in_ok-insert-in-Two-clause-put : goal.returns-in_ok-insert-in-Two-clause-put
returns-in_ok-insert-in-Two-clause-put c = λ put. rw c.in-Two.is (put_param_pair _ _ _ _ refl refl c.in_ok-insert-in-Two.ensures.updates.0)
