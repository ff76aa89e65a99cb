use borrow.Author.Count.{below_more}
use Rattle.std.proofs.Common.{ℕ, ◌<◌, ◌+◌, List, arith}
use Rattle.jm_coenable.specs.Rounds.{AreArrivals, IsSpreadState, IsSpread}
use Rattle.jm_coenable.proofs.SetLemmas.{part_map, part_then}
use Rattle.jm_coenable.proofs.arrivals.go_on.Goals as goal

pub loop-state-preserved : goal.loop-state-preserved
loop-state-preserved c =
    let t = c.args.table.now in let g = c.args.goal.now in
    part_then (AreArrivals t g) (λ (sets : List (List ℕ)). (state : ℕ) → state < c.loop-state.state → IsSpreadState t g state sets)
    (IsSpreadState t g c.loop-state.state) (λ (sets : List (List ℕ)). (state : ℕ) → state < c.loop-state.state + 1 → IsSpreadState t g state sets)
    c.args.arrivals.now.items c.loop-state.arrivals.items c.propagate-more.new.arrivals.items c.loop-state.changed c.propagate-more.result c.loop-state.invariant c.propagate-more.ensures
    (λ before here. below_more (λ (state : ℕ). IsSpreadState t g state c.propagate-more.new.arrivals.items) c.loop-state.state before here)

pub returns : goal.returns
returns c =
    let t = c.args.table.now in let g = c.args.goal.now in
    part_map (AreArrivals t g) (λ (sets : List (List ℕ)). (state : ℕ) → state < c.loop-state.state → IsSpreadState t g state sets) (IsSpread t g)
    c.args.arrivals.now.items c.loop-state.arrivals.items c.loop-state.changed c.loop-state.invariant (λ closed state lt. closed state (omega arith))
