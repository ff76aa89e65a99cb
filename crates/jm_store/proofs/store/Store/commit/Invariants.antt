use Rattle.std.proofs.Common.{◌≡◌, ◌⊎◌, List, length, true}
use Rattle.std.specs.Prelude.{Bool, Contains}
use Rattle.jm_index.specs.Index.{Pair, IsFitting}
use Rattle.jm_store.specs.Moves.{after_moves, AreApart}
use Rattle.jm_store.specs.Contents.{IsFilled, IsPlannedBy, ArePlaced}
use Rattle.jm_store.proofs.store.Store.commit.Given as goal

abbrev pub invariant-loop-step : goal.invariant-loop-step
invariant-loop-step g l = record {
  open_now : l.self.is_open ≡ true;
  monitors : after_moves l.moves.items l.self.monitors ≡ after_moves l.initial.moves.items l.initial.self.monitors;
  marks : l.self.marks ≡ l.initial.self.marks;
  ending : l.self.ending ≡ l.initial.self.ending;
  dropped : l.self.index.dropped ≡ l.initial.self.index.dropped;
  fits : (dead : List Bool) → IsFitting l.initial.self.index dead → IsFitting l.self.index dead;
  apart : AreApart l.moves.items;
  leads : ArePlaced l.self l.moves.items;
  filled : (pair : Pair) → Contains l.self.index.list pair → IsFilled l.self pair ⊎ IsPlannedBy l.moves.items pair;
}

abbrev pub decreases-loop-step : goal.decreases-loop-step
decreases-loop-step g l = length l.moves.items
