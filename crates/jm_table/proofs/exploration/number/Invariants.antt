use Rattle.std.proofs.Common.{ℕ, ◌≡◌, ◌<◌, Some, get_or, map, slice_get}
use Rattle.jm_table.proofs.exploration.number.Given as goal

abbrev pub invariant-loop-number : goal.invariant-loop-number
invariant-loop-number g l =
    (j : ℕ) → j < l.number-index → slice_get (map (g.G.Graph.data_of l.graph) l.fn.work.nodes.items) (get_or l.number-items j 0) ≡ Some (g.G.Graph.data_of l.graph l.node) → ⊥
