use Rattle.std.proofs.Common.{◌≡◌, ◌++◌, take}
use Rattle.std.specs.List.{flat_map}
use Rattle.jm_print.specs.Texts.{run_text_at}
use Rattle.jm_print.proofs.history.Printer.firings.Given as goal

abbrev pub invariant-loop-i : goal.invariant-loop-i
invariant-loop-i l = l.page ≡ l.initial.page ++ flat_map (run_text_at l.self l.caller l.line) (take l.i l.firings)
