use Rattle.jm_marks.proofs.ClearLemmas.{singles_dropped}
use Rattle.jm_marks.proofs.singles.Singles.drop_dead.Goals as goal

pub returns : goal.returns
returns c = rw (← c.self.view_is) (singles_dropped _ _ _ c.drop_all.ensures.size c.drop_all.ensures.each)
