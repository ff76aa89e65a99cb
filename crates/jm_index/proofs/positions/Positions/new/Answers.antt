use Rattle.std.proofs.Common.{refl}
use Rattle.jm_index.proofs.PositionLemmas.{bare}
use Rattle.jm_index.proofs.positions.Positions.new.Goals as goal

pub returns : goal.returns
returns c = bare _ refl c.new.ensures c.new-2.ensures.empty c.new-3.ensures.empty
