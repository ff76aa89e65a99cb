use Rattle.std.proofs.Common.{◌≡◌, List, length, false}
use Rattle.std.specs.Prelude.{Bool}
use Rattle.jm_index.specs.Index.{IsFitting}
use Rattle.jm_store.specs.Moves.{after_moves, reached_by, AreApart, AreEnding, EndsFewer}
use Rattle.jm_store.specs.Contents.{ArePlaced}
use Rattle.jm_store.proofs.store.Store.apply.Given as goal

abbrev pub invariant-loop-step : goal.invariant-loop-step
invariant-loop-step g l = record {
  closed : l.self.is_open ≡ false;
  monitors : after_moves l.moves.items l.self.monitors ≡ after_moves l.initial.moves.items l.initial.self.monitors;
  marks : l.self.marks ≡ l.initial.self.marks;
  dropped : l.self.index.dropped ≡ l.initial.self.index.dropped;
  fits : (dead : List Bool) → IsFitting l.initial.self.index dead → IsFitting l.self.index dead;
  fewer : EndsFewer l.initial.self.ending l.self.ending;
  ended : AreEnding (g.M.Monitor.meaning (g.M.Monitor.definition l.rules)) (g.M.Monitor.StandsFor l.rules) l.self.ending (reached_by l.initial.moves.items);
  apart : AreApart l.moves.items;
  leads : ArePlaced l.self l.moves.items;
}

abbrev pub decreases-loop-step : goal.decreases-loop-step
decreases-loop-step g l = length l.moves.items
