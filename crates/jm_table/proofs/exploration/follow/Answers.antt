use Rattle.std.proofs.Common.{◌≡◌, [], ◌∷◌, ◌++◌, List, map, Result, Ok, Err, refl, sym, ap, subst, ◌∙◌, arith}
use Rattle.std.proofs.lemmas.Result.{err_from_is_err_and}
use Rattle.jm_model.specs.declared.fault.SpecError.{SpecError}
use Rattle.jm_model.specs.declared.fault.SpecError.TheVariants.{Bad, NoMemory}
use Rattle.jm_model.specs.declared.fault.SpecFault.{SpecFault}
use Rattle.jm_table.specs.Graphs.{Answers}
use Rattle.jm_table.specs.Explorations.{Finds, IfBad}
use Rattle.jm_table.proofs.PlaceLemmas.{map_place_is}
use Rattle.jm_table.proofs.exploration.follow.Goals as goal

module _ {D : Type 0} (step : D → Result D SpecFault) (found : List D) (from d : D) (same : from ≡ d) where
  -- the step has no node
  step_fails : {N : Type 0} (data_of : N → D) (e : SpecError) → Answers data_of (step from) (Err e) → IfBad e (λ fault. Finds found (step d) (Err fault))
  step_fails data_of (Bad fault) h = subst (λ (r : Result D SpecFault). Finds found r (Err fault)) (sym (ap step (sym same) ∙ h)) refl
  step_fails data_of NoMemory h = tt

  module _ (target : D) (leads : step from ≡ Ok target) where
    -- its node has no number
    number_fails : (e : SpecError) → IfBad e (λ fault. Finds found (Ok target) (Err fault)) → IfBad e (λ fault. Finds found (step d) (Err fault))
    number_fails e h = subst (λ (r : Result D SpecFault). IfBad e (λ fault. Finds found r (Err fault))) (sym (ap step (sym same) ∙ leads)) h

    -- its node has one
    number_found : (after : List D) → Finds found (Ok target) (Ok after) → Finds found (step d) (Ok after)
    number_found after h = subst (λ (r : Result D SpecFault). Finds found r (Ok after)) (sym (ap step (sym same) ∙ leads)) h

pub returns-in_err-node-clause-fault : goal.returns-in_err-node-clause-fault
returns-in_err-node-clause-fault g c = λ d at.
    let p = err_from_is_err_and c.from_residual.result c.from_residual.ensures.1 in
    let nodes = c.args.work.now.nodes in
    let data_of = g.G.Graph.data_of c.args.graph.now in
    let same = map_place_is data_of nodes.items c.args.state c.index.result.now d (omega (arith, nodes.ok.0, c.requires.state)) c.index.ensures at in
    rw (p.1, p.2) (step_fails (λ x. (g.G.Graph.meaning c.args.graph.now).step x c.args.letter.0) (map data_of nodes.items) (data_of c.index.result.now) d same data_of c.in_err-node.field-0.0 c.in_err-node.ensures)

pub returns-in_err-target-clause-fault : goal.returns-in_err-target-clause-fault
returns-in_err-target-clause-fault g c = λ d at.
    let p = err_from_is_err_and c.from_residual-in_err-target.result c.from_residual-in_err-target.ensures.1 in
    let nodes = c.args.work.now.nodes in
    let data_of = g.G.Graph.data_of c.args.graph.now in
    let same = map_place_is data_of nodes.items c.args.state c.index.result.now d (omega (arith, nodes.ok.0, c.requires.state)) c.index.ensures at in
    rw (p.1, p.2) (number_fails (λ x. (g.G.Graph.meaning c.args.graph.now).step x c.args.letter.0) (map data_of nodes.items) (data_of c.index.result.now) d same (data_of c.in_ok-node.node) c.in_ok-node.ensures c.in_err-target.field-0.0 c.in_err-target.ensures.fault)

pub returns-clause-finds : goal.returns-clause-finds
returns-clause-finds g c = λ d at.
    let nodes = c.args.work.now.nodes in
    let data_of = g.G.Graph.data_of c.args.graph.now in
    let same = map_place_is data_of nodes.items c.args.state c.index.result.now d (omega (arith, nodes.ok.0, c.requires.state)) c.index.ensures at in
    number_found (λ x. (g.G.Graph.meaning c.args.graph.now).step x c.args.letter.0) (map data_of nodes.items) (data_of c.index.result.now) d same (data_of c.in_ok-node.node) c.in_ok-node.ensures (map data_of c.number.new.work.nodes.items) c.in_ok-target.ensures.finds

pub returns-clause-target : goal.returns-clause-target
returns-clause-target g c = λ d at.
    let nodes = c.args.work.now.nodes in
    let data_of = g.G.Graph.data_of c.args.graph.now in
    let same = map_place_is data_of nodes.items c.args.state c.index.result.now d (omega (arith, nodes.ok.0, c.requires.state)) c.index.ensures at in (
      data_of c.in_ok-node.node,
      c.in_ok-target.target,
      ap (λ x. (g.G.Graph.meaning c.args.graph.now).step x c.args.letter.0) (sym same) ∙ c.in_ok-node.ensures,
      c.in_ok-target.ensures.at_key,
      c.in_ok-push.ensures.items ∙ ap (λ v. v.items ++ c.in_ok-target.target ∷ []) c.number.ensures.next,
    )
