use Rattle.jm_marks.proofs.PlaceLemmas.{put_byte, gone_put}
use Rattle.jm_marks.proofs.singles.Singles.put.Goals as goal

pub invariant_of-self : goal.invariant_of-self
invariant_of-self c =
    let place = rw (← c.self.view_is) at c.requires in
    gone_put _ _ _ _ _ c.self.invariant place.room c.index_mut.ensures.value

pub returns : goal.returns
returns c =
    let place = rw (← c.self.view_is) at c.requires in
    rw (← c.self.view_is) (put_byte _ _ _ _ _ place c.index_mut-2.ensures.value)
