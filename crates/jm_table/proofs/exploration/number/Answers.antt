use Rattle.std.proofs.Common.{ℕ, ◌≡◌, ◌≢◌, ◌==◌, inl, inr, [], ◌∷◌, ◌++◌, List, Contains, get_or, false, Result, Ok, Err, Some, OnOk, map, length, slice_get, refl, sym, ap, ◌∙◌, ◌<◌, arith}
use Rattle.std.proofs.lemmas.List.{length-map}
use Rattle.std.proofs.lemmas.Bool.{cases_lt, false≢true}
use Rattle.std.proofs.lemmas.Bool.Decides.{nat_tests}
use Rattle.jm_model.specs.declared.fault.SpecError.{SpecError}
use Rattle.jm_table.specs.Explorations.{Finds}
use Rattle.jm_table.specs.Buckets.{bucket_of}
use Rattle.jm_table.proofs.BucketLemmas.{number_within, not_found}
use Rattle.jm_table.proofs.PlaceLemmas.{map_place, map_place_is, Contains-place}
use Rattle.jm_table.proofs.exploration.number.Goals as goal

not_same : (n k : ℕ) → n ≢ k → (n == k) ≡ false
not_same n k h = grind (arith, nat_tests)

module _ {D : Type 0} (found after : List D) (d : D) where
  found_last : (r : Result ℕ SpecError) → OnOk r (after ≡ found ++ d ∷ []) → (Contains found d → ⊥) → length found ≢ 1024 → OnOk r (Finds found (Ok d) (Ok after))
  found_last (Ok n) is new few = inr (new, rw (not_same (length found) 1024 few, is) refl)
  found_last (Err e) is new few = tt

pub index-requires : goal.index-requires
index-requires g c =
    let nodes = c.args.work.now.nodes in
    let data_of = g.G.Graph.data_of c.args.graph.now in
    omega (
      arith,
      nodes.ok.0,
      length-map nodes.items data_of,
      number_within (g.G.Graph.key_of c.args.graph.now) (map data_of nodes.items) c.args.work.now.known c.key.result c.bucket-number-items.result.now c.loop-number.number-index c.requires.index c.bucket-number-items.ensures c.loop-number-test.true,
    )

pub loop-number-init : goal.loop-number-init
loop-number-init g c = λ j below. absurd (omega (arith, below))

pub returns-then-same-clause-at_key : goal.returns-then-same-clause-at_key
returns-then-same-clause-at_key g c =
    let nodes = c.args.work.now.nodes in
    let data_of = g.G.Graph.data_of c.args.graph.now in
    let number = get_or c.bucket-number-items.result.now c.loop-number.number-index 0 in
    let within = number_within (g.G.Graph.key_of c.args.graph.now) (map data_of nodes.items) c.args.work.now.known c.key.result c.bucket-number-items.result.now c.loop-number.number-index c.requires.index c.bucket-number-items.ensures c.loop-number-test.true in
    let lt : number < length nodes.items = omega (arith, within, length-map nodes.items data_of) in
    map_place data_of nodes.items number c.index.result.now lt c.index.ensures ∙ ap (λ d. Some d) (c.same.ensures.0 c.if-same.true)

pub returns-then-same-clause-finds : goal.returns-then-same-clause-finds
returns-then-same-clause-finds g c =
    let nodes = c.args.work.now.nodes in
    let data_of = g.G.Graph.data_of c.args.graph.now in
    let number = get_or c.bucket-number-items.result.now c.loop-number.number-index 0 in
    let within = number_within (g.G.Graph.key_of c.args.graph.now) (map data_of nodes.items) c.args.work.now.known c.key.result c.bucket-number-items.result.now c.loop-number.number-index c.requires.index c.bucket-number-items.ensures c.loop-number-test.true in
    let lt : number < length nodes.items = omega (arith, within, length-map nodes.items data_of) in
    let at = map_place data_of nodes.items number c.index.result.now lt c.index.ensures ∙ ap (λ d. Some d) (c.same.ensures.0 c.if-same.true) in
    inl (Contains-place (map data_of nodes.items) number (data_of c.args.node) at, refl)

pub loop-number-preserved : goal.loop-number-preserved
loop-number-preserved g c = λ j below at.
    let nodes = c.args.work.now.nodes in
    let data_of = g.G.Graph.data_of c.args.graph.now in
    let bucket = c.bucket-number-items.result.now in
    let index = c.loop-number.number-index in
    let number = get_or bucket index 0 in
    elim (cases_lt j index) [
      | inl before ↦ c.loop-number.invariant j before at
      | inr last ↦
          let same : j ≡ index = omega (arith, below, last) in
          let here : slice_get (map data_of nodes.items) number ≡ Some (data_of c.args.node) = ap (λ i. slice_get (map data_of nodes.items) (get_or bucket i 0)) (sym same) ∙ at in
          let within = number_within (g.G.Graph.key_of c.args.graph.now) (map data_of nodes.items) c.args.work.now.known c.key.result bucket index c.requires.index c.bucket-number-items.ensures c.loop-number-test.true in
          let lt : number < length nodes.items = omega (arith, within, length-map nodes.items data_of) in
          false≢true (sym c.if-same.false ∙ c.same.ensures.1 (map_place_is data_of nodes.items number c.index.result.now (data_of c.args.node) lt c.index.ensures here))
    ]

pub returns-then-len-eq-MAX_STATES-clause-fault : goal.returns-then-len-eq-MAX_STATES-clause-fault
returns-then-len-eq-MAX_STATES-clause-fault g c =
    let nodes = c.args.work.now.nodes in
    let data_of = g.G.Graph.data_of c.args.graph.now in
    let key = g.G.Graph.key_of c.args.graph.now in
    let none = not_found key (map data_of nodes.items) c.args.work.now.known (data_of c.args.node) c.bucket-number-items.result.now c.requires.index
    (c.bucket-number-items.ensures ∙ ap (λ q. bucket_of c.args.work.now.known q) c.key.ensures)
    (λ j lt. c.loop-number.invariant j (omega (arith, lt, c.loop-number-test.false))) in
    let many : length (map data_of nodes.items) ≡ 1024 = omega (arith, length-map nodes.items data_of, nodes.ok.0, c.len.ensures, c.if-len-eq-MAX_STATES.true) in
    rw c.into.ensures (inr (none, rw many refl))

pub returns-clause-finds : goal.returns-clause-finds
returns-clause-finds g c =
    let nodes = c.args.work.now.nodes in
    let data_of = g.G.Graph.data_of c.args.graph.now in
    let key = g.G.Graph.key_of c.args.graph.now in
    let none = not_found key (map data_of nodes.items) c.args.work.now.known (data_of c.args.node) c.bucket-number-items.result.now c.requires.index
    (c.bucket-number-items.ensures ∙ ap (λ q. bucket_of c.args.work.now.known q) c.key.ensures)
    (λ j lt. c.loop-number.invariant j (omega (arith, lt, c.loop-number-test.false))) in
    let few : length (map data_of nodes.items) ≢ 1024 = omega (arith, length-map nodes.items data_of, nodes.ok.0, c.len.ensures, c.if-len-eq-MAX_STATES.false) in
    found_last (map data_of nodes.items) (map data_of c.append.new.work.nodes.items) (data_of c.args.node) c.append.result c.append.ensures.found none few
