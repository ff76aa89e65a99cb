use Rattle.std.proofs.Common.{ℕ, ◌≡◌, inl, inr, Err, map, length, sym, ap, subst, arith}
use Rattle.std.proofs.lemmas.List.{length-map}
use Rattle.std.proofs.lemmas.Result.{err_from_is_err_and}
use Rattle.jm_table.specs.Explorations.{IsInWork}
use Rattle.jm_table.specs.Tables.{Transitions, Follows}
use Rattle.jm_table.proofs.ExplorationLemmas.{in_work_start, bad_start, refused_by, accepted_by, caused_by, not_both}
use Rattle.jm_table.proofs.FollowLemmas.{finished}
use Rattle.jm_table.proofs.exploration.build.Goals as goal

pub returns-in_err-work-clause-fault : goal.returns-in_err-work-clause-fault
returns-in_err-work-clause-fault g c =
    let p = err_from_is_err_and c.from_residual.result c.from_residual.ensures.1 in
    rw (p.1, p.2) (bad_start (g.G.Graph.meaning c.args.graph.now) c.args.letters _ c.in_err-work.ensures.fault)

pub returns-in_err-work-clause-cause : goal.returns-in_err-work-clause-cause
returns-in_err-work-clause-cause g c =
    let p = err_from_is_err_and c.from_residual.result c.from_residual.ensures.1 in
    rw (p.1, p.2) (caused_by (g.G.Graph.meaning c.args.graph.now) c.args.letters _ (bad_start (g.G.Graph.meaning c.args.graph.now) c.args.letters _ c.in_err-work.ensures.fault))

pub returns-in_err-work-clause-refused : goal.returns-in_err-work-clause-refused
returns-in_err-work-clause-refused g c = λ fault also.
    let p = err_from_is_err_and c.from_residual.result c.from_residual.ensures.1 in
    let meaning = g.G.Graph.meaning c.args.graph.now in
    rw (p.1, p.2)
    (elim (refused_by meaning c.args.letters c.in_err-work.field-0.0 (bad_start meaning c.args.letters _ c.in_err-work.ensures.fault) fault also)
    [ inl e ↦ inl (ap (λ x. Err x) e) | inr e ↦ inr (ap (λ x. Err x) e) ])

pub returns-in_err-work-clause-accepted : goal.returns-in_err-work-clause-accepted
returns-in_err-work-clause-accepted g c = λ found also.
    let p = err_from_is_err_and c.from_residual.result c.from_residual.ensures.1 in
    let meaning = g.G.Graph.meaning c.args.graph.now in
    rw (p.1, p.2) (accepted_by meaning c.args.letters _ (bad_start meaning c.args.letters _ c.in_err-work.ensures.fault) found also)

pub loop-state-init : goal.loop-state-init
loop-state-init g c =
    let data_of = g.G.Graph.data_of c.args.graph.now in
    let meaning = g.G.Graph.meaning c.args.graph.now in
    let found = map data_of c.in_ok-work.work.nodes.items in
    let next = c.in_ok-work.work.next.items in
    record {
      work = subst (λ (n : ℕ). IsInWork meaning c.args.letters n found next) (omega arith) (in_work_start meaning c.args.letters found next c.in_ok-work.ensures.ok c.in_ok-work.ensures.next);
      index = c.in_ok-work.ensures.index;
      within = omega arith;
    }

pub returns-in_err-expand-clause-cause : goal.returns-in_err-expand-clause-cause
returns-in_err-expand-clause-cause g c =
    let p = err_from_is_err_and c.from_residual-in_err-expand.result c.from_residual-in_err-expand.ensures.1 in
    rw (p.1, p.2) (caused_by (g.G.Graph.meaning c.args.graph.now) c.args.letters _ c.in_err-expand.ensures.fault)

pub returns-in_err-expand-clause-refused : goal.returns-in_err-expand-clause-refused
returns-in_err-expand-clause-refused g c = λ fault also.
    let p = err_from_is_err_and c.from_residual-in_err-expand.result c.from_residual-in_err-expand.ensures.1 in
    rw (p.1, p.2)
    (elim (refused_by (g.G.Graph.meaning c.args.graph.now) c.args.letters c.in_err-expand.field-0.0 c.in_err-expand.ensures.fault fault also)
    [ inl e ↦ inl (ap (λ x. Err x) e) | inr e ↦ inr (ap (λ x. Err x) e) ])

pub returns-in_err-expand-clause-accepted : goal.returns-in_err-expand-clause-accepted
returns-in_err-expand-clause-accepted g c = λ found also.
    let p = err_from_is_err_and c.from_residual-in_err-expand.result c.from_residual-in_err-expand.ensures.1 in
    rw (p.1, p.2) (accepted_by (g.G.Graph.meaning c.args.graph.now) c.args.letters _ c.in_err-expand.ensures.fault found also)

pub new-table-requires : goal.new-table-requires
new-table-requires g c =
    let data_of = g.G.Graph.data_of c.args.graph.now in
    let nodes = c.loop-state.work.nodes in
    let found = map data_of nodes.items in
    let states : c.len-2.result ≡ length found = omega (arith, c.len-2.ensures, nodes.ok.0, length-map nodes.items data_of) in
    let done : c.loop-state.state ≡ length found = omega (arith, c.len.ensures, nodes.ok.0, length-map nodes.items data_of, c.loop-state-test.false, c.loop-state.invariant.within) in
    (finished (g.G.Graph.meaning c.args.graph.now) c.args.letters found c.loop-state.work.next.items c.len-2.result c.loop-state.state states done c.requires c.loop-state.invariant.work).0

pub returns-clause-follows : goal.returns-clause-follows
returns-clause-follows g c =
    let data_of = g.G.Graph.data_of c.args.graph.now in
    let meaning = g.G.Graph.meaning c.args.graph.now in
    let nodes = c.loop-state.work.nodes in
    let found = map data_of nodes.items in
    let states : c.len-2.result ≡ length found = omega (arith, c.len-2.ensures, nodes.ok.0, length-map nodes.items data_of) in
    let done : c.loop-state.state ≡ length found = omega (arith, c.len.ensures, nodes.ok.0, length-map nodes.items data_of, c.loop-state-test.false, c.loop-state.invariant.within) in
    subst (λ (t : Transitions). Follows meaning t found) (sym c.new-table.ensures)
    (finished meaning c.args.letters found c.loop-state.work.next.items c.len-2.result c.loop-state.state states done c.requires c.loop-state.invariant.work).1

pub returns-clause-explored : goal.returns-clause-explored
returns-clause-explored g c =
    let data_of = g.G.Graph.data_of c.args.graph.now in
    let nodes = c.loop-state.work.nodes in
    let found = map data_of nodes.items in
    let states : c.len-2.result ≡ length found = omega (arith, c.len-2.ensures, nodes.ok.0, length-map nodes.items data_of) in
    let done : c.loop-state.state ≡ length found = omega (arith, c.len.ensures, nodes.ok.0, length-map nodes.items data_of, c.loop-state-test.false, c.loop-state.invariant.within) in
    (finished (g.G.Graph.meaning c.args.graph.now) c.args.letters found c.loop-state.work.next.items c.len-2.result c.loop-state.state states done c.requires c.loop-state.invariant.work).2

pub returns-clause-refused : goal.returns-clause-refused
returns-clause-refused g c = λ fault also.
    let data_of = g.G.Graph.data_of c.args.graph.now in
    let meaning = g.G.Graph.meaning c.args.graph.now in
    let nodes = c.loop-state.work.nodes in
    let found = map data_of nodes.items in
    let states : c.len-2.result ≡ length found = omega (arith, c.len-2.ensures, nodes.ok.0, length-map nodes.items data_of) in
    let done : c.loop-state.state ≡ length found = omega (arith, c.len.ensures, nodes.ok.0, length-map nodes.items data_of, c.loop-state-test.false, c.loop-state.invariant.within) in
    let explored = (finished meaning c.args.letters found c.loop-state.work.next.items c.len-2.result c.loop-state.state states done c.requires c.loop-state.invariant.work).2 in
    absurd (not_both meaning c.args.letters found fault explored also)
