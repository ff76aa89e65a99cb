use Rattle.std.proofs.Common.{◌≡◌, ◌+◌, ℕ, Some, take, slice_get, get_or, refl, sym, subst}
use Rattle.std.proofs.lemmas.Option.{slice_get-get_or}
use Rattle.jm_earley.specs.declared.item.Item.{Item}
use Rattle.jm_earley.specs.Kept.{IsReach}
use Rattle.jm_earley.proofs.ReachLemmas.{reach_none, reach_next, reach_same, reach_more}
use Rattle.jm_earley.proofs.earley_set.EarleySets.reach.Goals as goal
use Rattle.jm_earley.proofs.earley_set.EarleySets.reach.Goals.{in-Some, in-None}

pub loop-item-init : goal.loop-item-init
loop-item-init c = reach_none c.args.self.now _ refl

pub loop-item-preserved-then-is_passed : goal.loop-item-preserved-then-is_passed
loop-item-preserved-then-is_passed c =
    let places = c.args.self.now in
    let items = c.args.items.now in
    let i = c.loop-item.item-index in
    let count = c.loop-item.count in
    let none : Item = record { production = 0; dot = 0; origin = 0 } in
    let x = get_or items i none in
    reach_next places items i x count count (slice_get-get_or items i none c.loop-item-test.true) c.loop-item.invariant
    (reach_same places x.origin count c.loop-item.invariant.within (c.is_passed.ensures.passed c.if-is_passed.true))

pub loop-item-preserved : goal.loop-item-preserved
loop-item-preserved c =
    let places = c.args.self.now in
    let items = c.args.items.now in
    let i = c.loop-item.item-index in
    let count = c.loop-item.count in
    let none : Item = record { production = 0; dot = 0; origin = 0 } in
    let x = get_or items i none in
    let at : slice_get items i ≡ Some x = slice_get-get_or items i none c.loop-item-test.true in
    let Next = λ (new : ℕ). IsReach places (take (i + 1) items) new in
    elim c.match-number_of.branch [
      | in-Some w ↦
          let there = w.in-Some.ensures.value in
          let number = w.in-Some.number in
          subst Next (sym w.count-is) (reach_next places items i x count (number + 1) at c.loop-item.invariant
          (reach_more places c.number_of.ensures.sorted x.origin count number (c.is_passed.ensures.ahead c.if-is_passed.false number there) there))
      | in-None w ↦
          subst Next (sym w.count-is) (reach_next places items i x count count at c.loop-item.invariant
          (reach_same places x.origin count c.loop-item.invariant.within (λ number there. absurd (w.in-None.ensures.value number there))))
    ]
