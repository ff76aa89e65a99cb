use Rattle.std.proofs.Common.{◌≡◌, ◌++◌, take}
use Rattle.std.specs.List.{flat_map}
use Rattle.jm_print.specs.Texts.{full_entry_text}
use Rattle.jm_print.proofs.history.Printer.entries.Given as goal

abbrev pub invariant-loop-i : goal.invariant-loop-i
invariant-loop-i l = l.page ≡ l.initial.page ++ flat_map (full_entry_text l.self) (take l.i l.piece)
