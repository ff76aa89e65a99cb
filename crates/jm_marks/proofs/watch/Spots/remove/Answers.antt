use Rattle.std.proofs.Common.{◌<◌, length}
use Rattle.jm_marks.proofs.FlagLemmas.{removed_low}
use Rattle.jm_marks.proofs.watch.Spots.remove.Goals as goal

pub invariant_of-self : goal.invariant_of-self
invariant_of-self c =
    let there : c.args.place < length c.self.inside.spots.items = rw (← c.self.view_is) at c.requires in
    (c.self.invariant.0, rw c.swap_remove.ensures.items (removed_low _ _ _ _ there c.self.invariant.1), c.self.invariant.2)
