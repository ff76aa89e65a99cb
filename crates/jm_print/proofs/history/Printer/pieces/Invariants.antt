use Rattle.std.proofs.Common.{◌≡◌, ◌++◌, take, length}
use Rattle.std.specs.List.{flat_map}
use Rattle.jm_print.specs.Texts.{full_entry_text}
use Rattle.jm_print.proofs.history.Printer.pieces.Given as goal

abbrev pub invariant-loop-piece : goal.invariant-loop-piece
invariant-loop-piece l = record {
  text : l.page ≡ l.initial.page ++ flat_map (full_entry_text l.self) (flat_map (λ piece. piece) (take l.piece-index l.pieces));
  count : l.count ≡ length (flat_map (λ piece. piece) (take l.piece-index l.pieces));
}
