use Rattle.std.proofs.Common.{◌-◌, ◌*◌, ◌≤◌, map, length}
use Rattle.jm_table.specs.Buckets.{IsIndex}
use Rattle.jm_table.specs.Explorations.{IsInWork}
use Rattle.jm_table.proofs.exploration.build.Given as goal

abbrev pub invariant-loop-state : goal.invariant-loop-state
invariant-loop-state g l = record {
  work : IsInWork (g.G.Graph.meaning l.graph) l.letters (l.state * l.letters) (map (g.G.Graph.data_of l.graph) l.work.nodes.items) l.work.next.items;
  index : IsIndex (g.G.Graph.key_of l.graph) (map (g.G.Graph.data_of l.graph) l.work.nodes.items) l.work.known;
  within : l.state ≤ length l.work.nodes.items;
}

abbrev pub decreases-loop-state : goal.decreases-loop-state
decreases-loop-state g l = 1024 - l.state
