use Rattle.std.proofs.Common.{◌≡◌, [], length, append-nil, sym, subst, arith}
use Rattle.jm_machine.specs.declared.place.Place.TheVariants.{Start}
use Rattle.jm_machine.specs.Configurations.{AreAfter}
use Rattle.jm_machine.specs.Places.{IsPlaceAfter}
use Rattle.jm_machine.proofs.LivenessLemmas.{get_push, count_push}
use Rattle.jm_machine.proofs.RuleLemmas.{Follows, follow_here, all_follow}
use Rattle.jm_machine.proofs.rules.Rules.copy_of_each.Goals as goal

pub loop-number-preserved : goal.loop-number-preserved
loop-number-preserved c =
    let r = c.args.self.now in
    let n = c.loop-number.number in
    let next = c.in_ok-copy-2.field-0 in
    let own = c.property.result.now in
    let step = follow_here r c.args.places.now Start [] n next c.place_at-place.result.now own c.property.ensures c.place_at-place.ensures
    (λ w h. subst (IsPlaceAfter own next) (sym (append-nil w)) (c.in_ok-copy-2.ensures w h)) in
    record {
      count = rw c.in_ok-push.ensures.items (count_push c.loop-number.copy.items next n c.loop-number.invariant.count);
      each = rw c.in_ok-push.ensures.items (get_push (Follows r c.args.places.now Start []) c.loop-number.copy.items next n c.loop-number.invariant.count c.loop-number.invariant.each step);
    }

pub returns : goal.returns
returns c =
    let r = c.args.self.now in
    let set = c.properties-number-end.ensures.rules in
    let count : length c.loop-number.copy.items ≡ length r.parts = omega (arith, c.loop-number.invariant.count, c.loop-number-test.false, c.loop-number.auto.number-end, c.properties-number-end.ensures.parts) in
    rw c.in_ok-new.ensures.ok
    (λ w after. subst (AreAfter r.parts c.loop-number.copy.items Start) (append-nil w) (all_follow r set c.args.places.now Start [] c.loop-number.copy.items count c.loop-number.invariant.each w after))
