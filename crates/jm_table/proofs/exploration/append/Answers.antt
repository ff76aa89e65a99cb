use Rattle.std.proofs.Common.{[], ◌∷◌, map, sym, ◌∙◌}
use Rattle.std.proofs.lemmas.List.{length-map, map-append}
use Rattle.jm_table.proofs.BucketLemmas.{index_more}
use Rattle.jm_table.proofs.exploration.append.Goals as goal

pub returns-clause-index : goal.returns-clause-index
returns-clause-index g c =
    let data_of = g.G.Graph.data_of c.args.graph.now in
    let key = g.G.Graph.key_of c.args.graph.now in
    let nodes = c.args.work.now.nodes in
    let here = rw c.key.ensures at c.in_ok-add.ensures.at_key in
    rw (c.in_ok-push.ensures.items, map-append data_of nodes.items (c.args.node ∷ []))
    (index_more key (map data_of nodes.items) c.args.work.now.known c.add.new.self (data_of c.args.node) _
    (c.len-number.ensures ∙ nodes.ok.0 ∙ sym (length-map nodes.items data_of)) c.requires.index here c.in_ok-add.ensures.others)
