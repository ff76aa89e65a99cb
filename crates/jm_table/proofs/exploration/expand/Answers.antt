use Rattle.std.proofs.Common.{ℕ, ◌+◌, ◌*◌, List, map, sym, subst, arith}
use Rattle.std.proofs.lemmas.List.{length-map}
use Rattle.std.proofs.lemmas.Result.{err_from_is_err_and}
use Rattle.jm_table.specs.Explorations.{IsInWork}
use Rattle.jm_table.proofs.PlaceLemmas.{place_of}
use Rattle.jm_table.proofs.ExplorationLemmas.{step_taken, step_failed, still_more}
use Rattle.jm_table.proofs.exploration.expand.Goals as goal

pub returns-in_err-follow-clause-fault : goal.returns-in_err-follow-clause-fault
returns-in_err-follow-clause-fault g c =
    let data_of = g.G.Graph.data_of c.args.graph.now in
    let nodes = c.loop-letter.work.nodes in
    let found = map data_of nodes.items in
    let here = place_of found c.args.state (omega (arith, length-map nodes.items data_of, c.requires.state, c.loop-letter.invariant.grown, c.args.work.now.nodes.ok.0)) in
    let p = err_from_is_err_and c.from_residual.result c.from_residual.ensures.1 in
    rw (p.1, p.2)
    (step_failed (g.G.Graph.meaning c.args.graph.now) c.args.letters c.args.state c.loop-letter.letter found c.loop-letter.work.next.items here.0 _ c.loop-letter-test.true c.loop-letter.invariant.work here.1
    (c.in_err-follow.ensures.fault here.0 here.1))

pub loop-letter-preserved : goal.loop-letter-preserved
loop-letter-preserved g c =
    let data_of = g.G.Graph.data_of c.args.graph.now in
    let meaning = g.G.Graph.meaning c.args.graph.now in
    let nodes = c.loop-letter.work.nodes in
    let found = map data_of nodes.items in
    let after = map data_of c.follow.new.work.nodes.items in
    let here = place_of found c.args.state (omega (arith, length-map nodes.items data_of, c.requires.state, c.loop-letter.invariant.grown, c.args.work.now.nodes.ok.0)) in
    let finds = c.in_ok-follow.ensures.finds here.0 here.1 in
    let target = c.in_ok-follow.ensures.target here.0 here.1 in
    record {
      work = subst (λ (next : List ℕ). IsInWork meaning c.args.letters (c.args.state * c.args.letters + (c.loop-letter.letter + 1)) after next) (sym target.4)
          (step_taken meaning c.args.letters c.args.state c.loop-letter.letter found after c.loop-letter.work.next.items here.0 target.0 target.1 c.loop-letter-test.true c.loop-letter.invariant.work here.1 finds target.2 target.3);
      index = c.in_ok-follow.ensures.index;
      grown = omega (
        arith,
        c.loop-letter.invariant.grown,
        length-map nodes.items data_of,
        length-map c.follow.new.work.nodes.items data_of,
        still_more meaning c.args.letters found after (meaning.step here.0 c.loop-letter.letter) finds,
      );
    }
