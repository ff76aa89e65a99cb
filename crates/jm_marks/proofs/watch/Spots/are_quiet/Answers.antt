use Rattle.std.proofs.Common.{◌≡◌, ◌<◌, ◌≤◌, ◌+◌, length, get_or, arith}
use Rattle.std.proofs.lemmas.Bool.Decides.{nat_tests}
use Rattle.jm_marks.proofs.FlagLemmas.{together, flag_of_spot}
use Rattle.jm_marks.proofs.watch.Spots.are_quiet.Goals as goal

pub loop-at-preserved : goal.loop-at-preserved
loop-at-preserved c =
    let within : c.args.place + 16 ≤ length c.self.inside.spots.items = rw (← c.self.view_is) at c.requires in
    let some : 0 < length c.self.inside.flags.items = grind (arith, nat_tests) in
    let flag : get_or c.self.inside.flags.items (get_or c.self.inside.spots.items c.loop-at.at 0) 1 ≡ c.index-in-loop-at.result.now =
    flag_of_spot _ _ _ _ _ (omega (arith, within)) some c.self.invariant.1 c.index.ensures c.index-in-loop-at.ensures in
    record { each = together c.args.self.now.flags c.args.self.now.spots _ _ _ _ c.loop-at.invariant.each (rw (← c.self.view_is) flag) }
