use Rattle.std.proofs.Common.{◌≡◌, ◌++◌, List, length, true}
use Rattle.std.specs.Prelude.{Bool}
use Rattle.jm_index.specs.Index.{IsFitting}
use Rattle.jm_store.specs.declared.moves.Move.{Move}
use Rattle.jm_store.specs.Moves.{LieWithin}
use Rattle.jm_store.specs.Contents.{ArePlacedOf, KeepsContents}
use Rattle.jm_store.proofs.store.Store.place_all.Given as goal

abbrev pub invariant-loop-step : goal.invariant-loop-step
invariant-loop-step g l = record {
  open_now : l.self.is_open ≡ true;
  kept : KeepsContents l.fn.self l.self;
  fits : (dead : List Bool) → IsFitting l.fn.self.index dead → LieWithin (length dead) l.initial.moves.items → IsFitting l.self.index dead;
  done : List (Move g.row.M-State.Denot);
  split : l.initial.moves.items ≡ l.moves.items ++ done;
  placed : ArePlacedOf l.fn.self l.self l.initial.moves.items done l.placed.items;
}

abbrev pub decreases-loop-step : goal.decreases-loop-step
decreases-loop-step g l = length l.moves.items
