use Rattle.std.proofs.Common.{◌≡◌, ◌∙◌, get_or}
use Rattle.jm_marks.proofs.WatchLemmas.{other_default}
use Rattle.jm_marks.proofs.PlaceLemmas.{there_by_bit, bit_by_there, bit_true, true_bit}
use Rattle.jm_marks.proofs.singles.Singles.contains.Goals as goal

pub returns-in-Some : goal.returns-in-Some
returns-in-Some c =
    let place = rw (← c.self.view_is) at c.in-Some.ensures.some in
    let byte : c.index.result.now ≡ get_or c.self.inside.bytes.items c.in-Some.single.object 0 = c.index.ensures ∙ other_default _ _ _ 0 place.room in
    rw (← c.self.view_is) (
      λ yes. there_by_bit _ _ _ _ place (bit_true _ _ _ byte yes),
      λ there. true_bit _ _ _ byte (bit_by_there _ _ _ _ place there),
    )
