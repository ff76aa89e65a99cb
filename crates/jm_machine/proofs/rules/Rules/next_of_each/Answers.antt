use Rattle.std.proofs.Common.{◌≡◌, [], ◌∷◌, length, arith}
use Rattle.jm_machine.proofs.LivenessLemmas.{get_push, count_push}
use Rattle.jm_machine.proofs.RuleLemmas.{Follows, follow_here, all_follow}
use Rattle.jm_machine.proofs.rules.Rules.next_of_each.Goals as goal

pub loop-number-preserved : goal.loop-number-preserved
loop-number-preserved c =
    let r = c.args.self.now in
    let n = c.loop-number.number in
    let next = c.in_ok-next-2.field-0 in
    let more = c.args.letter.0 ∷ [] in
    let step = follow_here r c.args.places.now c.args.otherwise.now more n next c.place_at-place.result.now c.property.result.now c.property.ensures c.place_at-place.ensures c.in_ok-next-2.ensures in
    record {
      count = rw c.in_ok-push.ensures.items (count_push c.loop-number.next.items next n c.loop-number.invariant.count);
      each = rw c.in_ok-push.ensures.items (get_push (Follows r c.args.places.now c.args.otherwise.now more) c.loop-number.next.items next n c.loop-number.invariant.count c.loop-number.invariant.each step);
    }

pub returns : goal.returns
returns c =
    let r = c.args.self.now in
    let set = c.properties-number-end.ensures.rules in
    let count : length c.loop-number.next.items ≡ length r.parts = omega (arith, c.loop-number.invariant.count, c.loop-number-test.false, c.loop-number.auto.number-end, c.properties-number-end.ensures.parts) in
    rw c.in_ok-new.ensures.ok
    (all_follow r set c.args.places.now c.args.otherwise.now (c.args.letter.0 ∷ []) c.loop-number.next.items count c.loop-number.invariant.each)
