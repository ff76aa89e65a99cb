use Rattle.std.proofs.Common.{◌≡◌, take}
use Rattle.std.specs.List.{flat_map}
use Rattle.jm_print.specs.Summaries.{count_of}
use Rattle.jm_print.proofs.summary.count.Given as goal

abbrev pub invariant-loop-piece : goal.invariant-loop-piece
invariant-loop-piece l = l.count ≡ count_of l.what (flat_map (λ piece. piece) (take l.piece-index l.pieces))
