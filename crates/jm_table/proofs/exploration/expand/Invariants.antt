use Rattle.std.proofs.Common.{◌+◌, ◌*◌, ◌≤◌, map, length}
use Rattle.jm_table.specs.Buckets.{IsIndex}
use Rattle.jm_table.specs.Explorations.{IsInWork}
use Rattle.jm_table.proofs.exploration.expand.Given as goal

abbrev pub invariant-loop-letter : goal.invariant-loop-letter
invariant-loop-letter g l = record {
  work : IsInWork (g.G.Graph.meaning l.graph) l.letters (l.state * l.letters + l.letter) (map (g.G.Graph.data_of l.graph) l.work.nodes.items) l.work.next.items;
  index : IsIndex (g.G.Graph.key_of l.graph) (map (g.G.Graph.data_of l.graph) l.work.nodes.items) l.work.known;
  grown : length l.initial.work.nodes.items ≤ length l.work.nodes.items;
}
