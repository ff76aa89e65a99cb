use Rattle.std.proofs.Common.{List, length, take, ap, subst, ◌∙◌, arith}
use Rattle.jm_earley.specs.declared.earley_set.EarleySet.{EarleySet}
use Rattle.jm_earley.specs.declared.item.Item.{Item}
use Rattle.jm_earley.specs.Kept.{IsSorted, IsReach}
use Rattle.jm_earley.proofs.ReachLemmas.{new_sorted, followed}
use Rattle.jm_earley.proofs.earley_set.EarleySets.followed_by.Goals as goal

pub first-requires : goal.first-requires
first-requires c = let reach = c.reach-count.ensures in omega (arith, reach.within, ap length c.self.view_is)

pub invariant_of-result : goal.invariant_of-result
invariant_of-result c =
    let places = c.args.self.now in
    let count = c.reach-count.result in
    let sorted : IsSorted places = subst (λ (l : List EarleySet). IsSorted l) c.self.view_is c.self.invariant in
    let reach : IsReach places c.args.place.items count = subst (λ (l : List Item). IsReach places l count) c.as_slice.ensures c.reach-count.ensures in
    new_sorted places sorted c.args.place count c.in_ok-list.list c.push.new.self c.requires reach (c.in_ok-list.ensures ∙ ap (λ (l : List EarleySet). take count l) c.self.view_is) c.in_ok-push.ensures

pub returns : goal.returns
returns c =
    let places = c.args.self.now in
    let count = c.reach-count.result in
    let sorted : IsSorted places = subst (λ (l : List EarleySet). IsSorted l) c.self.view_is c.self.invariant in
    let reach : IsReach places c.args.place.items count = subst (λ (l : List Item). IsReach places l count) c.as_slice.ensures c.reach-count.ensures in
    followed places sorted c.args.place count c.in_ok-list.list c.push.new.self c.requires reach (c.in_ok-list.ensures ∙ ap (λ (l : List EarleySet). take count l) c.self.view_is) c.in_ok-push.ensures
