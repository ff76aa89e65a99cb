use Rattle.std.proofs.Common.{◌≡◌, ◌⊎◌, drop}
use Rattle.std.specs.Prelude.{List, Bool, Contains, true}
use Rattle.jm_index.specs.Index.{Pair, IsFitting}
use Rattle.jm_store.specs.Contents.{IsFilled, IsPlannedBy, KeepsContents}
use Rattle.jm_store.proofs.store.Store.take_back.Given as goal

abbrev pub invariant-loop-step : goal.invariant-loop-step
invariant-loop-step g l = record {
  open_now : l.self.is_open ≡ true;
  kept : KeepsContents l.initial.self l.self;
  fits : (dead : List Bool) → IsFitting l.initial.self.index dead → IsFitting l.self.index dead;
  within : (pair : Pair) → Contains l.self.index.list pair → Contains l.initial.self.index.list pair;
  filled : (pair : Pair) → Contains l.self.index.list pair → IsFilled l.self pair ⊎ IsPlannedBy (drop l.step-index l.moves) pair;
}
