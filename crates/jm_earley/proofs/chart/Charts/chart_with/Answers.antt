use Rattle.std.proofs.Common.{ℕ, ◌-◌, List, length, refl, sym, subst, arith}
use Rattle.std.proofs.lemmas.Option.{slice_get_within}
use Rattle.jm_earley.specs.declared.item.Item.{Item}
use Rattle.jm_earley.specs.declared.earley_set.EarleySet.{EarleySet}
use Rattle.jm_earley.specs.Items.{IsItemSet}
use Rattle.jm_earley.specs.AwaitIndex.{IsWaiting}
use Rattle.jm_earley.specs.EarleySets.{AreEarlier, AreFutures}
use Rattle.jm_earley.specs.Charts.{ChartsDefinition}
use Rattle.jm_earley.proofs.chart.Charts.chart_with.Goals as goal

pub followed_by-requires : goal.followed_by-requires
followed_by-requires c = c.requires

pub invariant_of-result : goal.invariant_of-result
invariant_of-result c =
    let places = c.in_ok-places.places in
    omega (arith, slice_get_within places (length places - 1) _ c.in_ok-places.ensures.ends)

pub returns : goal.returns
returns c = λ are_waiting.
    let charts : ChartsDefinition = c.args.self.now in
    let earlier = c.args.earlier.now in
    let items = c.in_ok-items.items in
    let lists = c.in_ok-waiting.waiting in
    let future = c.in_ok-futures.futures in
    let place : EarleySet = record { position = c.args.position; items = items; waiting = lists; futures = future } in
    let inside : (word : List ℕ) → IsItemSet c.self.inside.grammar word items → AreEarlier c.self.inside.grammar c.self.inside.dead.sets.items word earlier
    → AreFutures c.self.inside.grammar c.self.inside.dead.sets.items word future =
    λ word all are. c.in_ok-futures.ensures c.self.invariant.1.exact word (subst (λ (l : List Item). IsItemSet c.self.inside.grammar word l) (sym c.as_slice-2.ensures) all) are in
    record {
      place = place;
      closure = c.in_ok-items.ensures are_waiting;
      place_is = record {
        position_is = refl;
        items_are = refl;
        waits = subst (λ (l : List Item). IsWaiting charts.grammar l lists) c.as_slice.ensures c.in_ok-waiting.ensures;
        follows = subst (λ (d : ChartsDefinition). (word : List ℕ) → IsItemSet d.grammar word items → AreEarlier d.grammar d.letter_sets word earlier
            → AreFutures d.grammar d.letter_sets word future) c.self.view_is inside;
      };
      follows = c.in_ok-places.ensures;
    }
