use Rattle.std.proofs.Common.{Bool, List, Option, ◌≤◌, drop, length}
use Rattle.std.specs.Prelude.{Contains}
use Rattle.jm_monitors.specs.declared.stored.Stored.{Stored}
use Rattle.jm_store.specs.declared.moves.Move.{Move}
use Rattle.jm_store.specs.Moves.{after_moves, AreApart}
use Rattle.jm_store.specs.Listed.{AreListed, IsFor}
use Rattle.jm_store.proofs.waking.follow_all.Given as goal

abbrev pub invariant-loop-left : goal.invariant-loop-left
invariant-loop-left g l = record {
  low : l.left ≤ length l.moves;
  listed : (rules : g.row.M.Denot) (dead : List Bool) (monitors : List (Option (Stored g.row.M-State.Denot))) → AreApart l.moves → ((move : Move g.row.M-State.Denot) → Contains l.moves move → IsFor monitors move)
      → AreListed (g.M.Monitor.meaning (g.M.Monitor.definition rules)) (g.M.Monitor.StandsFor rules) dead monitors l.initial.awake
      → AreListed (g.M.Monitor.meaning (g.M.Monitor.definition rules)) (g.M.Monitor.StandsFor rules) dead (after_moves (drop l.left l.moves) monitors) l.awake;
}

abbrev pub decreases-loop-left : goal.decreases-loop-left
decreases-loop-left g l = l.left
