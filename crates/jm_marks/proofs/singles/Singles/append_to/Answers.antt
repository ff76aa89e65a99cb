use Rattle.std.proofs.Common.{◌≡◌, ◌/◌, ◌*◌, ◌<◌, length, get_or, refl, ◌∙◌, arith}
use Rattle.jm_marks.proofs.WatchLemmas.{other_default}
use Rattle.jm_marks.proofs.PlaceLemmas.{appended, passed}
use Rattle.jm_marks.proofs.singles.Singles.append_to.Goals as goal
use Rattle.jm_marks.proofs.singles.Singles.append_to.Goals.{then-index-p-eq1+in_ok-push, else-index-p-eq1}

pub loop-place-preserved : goal.loop-place-preserved
loop-place-preserved c =
    let inv = c.loop-place.invariant in
    let bytes = c.self.inside.bytes.items in
    let low : c.loop-place.place < 8 * length bytes = omega (arith, c.loop-place-test.true, inv.all) in
    let there : c.loop-place.place / 8 < length bytes = omega (arith, low) in
    let byte : c.index.result.now ≡ get_or bytes (c.loop-place.place / 8) 0 = c.index.ensures ∙ other_default _ _ _ 0 there in
    record {
      items = elim c.if-index-p-eq1.branch [
        | then-index-p-eq1+in_ok-push w ↦ rw w.list-is (appended bytes _ _ _ _ _ _ _ _ byte refl refl w.if-index-p-eq1.true inv.items (rw w.empty.ensures at w.bind.ensures) w.in_ok-push.ensures.items)
        | else-index-p-eq1 w ↦ rw w.list-is (passed bytes _ _ _ _ _ byte refl w.if-index-p-eq1.false inv.items)
      ];
      all = inv.all;
    }
