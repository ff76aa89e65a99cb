use Rattle.std.proofs.Common.{◌≡◌, take}
use Rattle.std.specs.List.{flat_map}
use Rattle.jm_history.proofs.history.History.to_list.Given as goal

abbrev pub invariant-loop-piece : goal.invariant-loop-piece
invariant-loop-piece l = l.entries.items ≡ flat_map (λ piece. piece) (take l.piece-index l.piece-items)
