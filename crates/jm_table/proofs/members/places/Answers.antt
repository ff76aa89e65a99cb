use Rattle.std.proofs.Common.{ℕ, ◌+◌, List, length, refl, sym, ap, subst, ◌∙◌}
use Rattle.std.specs.Fn.{FnReturnsAt}
use Rattle.std.proofs.lemmas.Fn.{says_at}
use Rattle.std.proofs.lemmas.Option.{slice_get_read}
use Rattle.jm_table.specs.Members.{ArePlaces}
use Rattle.jm_table.proofs.MemberLemmas.{place_more, place_same}
use Rattle.jm_table.proofs.members.places.Goals as goal
use Rattle.jm_table.proofs.members.places.Goals.{then-holds+in_ok-push, else-holds}

pub loop-place-preserved : goal.loop-place-preserved
loop-place-preserved g c =
    let items = c.args.items.now in
    let i = c.loop-place.place in
    let item = c.index-items-place.result in
    let so_far = c.loop-place.places.items in
    let at = slice_get_read items (length items) i item refl c.loop-place-test.true c.index-items-place.is in
    elim c.if-holds.branch [
      | then-holds+in_ok-push w ↦ subst (λ (l : List ℕ). ArePlaces (FnReturnsAt g.F.Fn c.args.holds) items (i + 1) l) (sym (ap (λ v. v.items) w.places-is ∙ w.in_ok-push.ensures.items))
          (place_more (FnReturnsAt g.F.Fn c.args.holds) items i item so_far at (says_at g.F.Fn c.holds.ensures w.if-holds.true) c.loop-place.invariant)
      | else-holds w ↦ subst (λ (l : List ℕ). ArePlaces (FnReturnsAt g.F.Fn c.args.holds) items (i + 1) l) (sym (ap (λ v. v.items) w.places-is))
          (place_same (FnReturnsAt g.F.Fn c.args.holds) items i item so_far at (says_at g.F.Fn c.holds.ensures w.if-holds.false) c.loop-place.invariant)
    ]
