use Rattle.std.proofs.Common.{◌++◌}
use Rattle.jm_history.specs.Rows.{placed}
use Rattle.jm_print.specs.Texts.{binding_text}
use Rattle.jm_print.proofs.PlacedLemmas.{IsPrinting}
use Rattle.jm_print.proofs.history.Printer.pairs.Given as goal

abbrev pub invariant-loop-rest : goal.invariant-loop-rest
invariant-loop-rest l =
    IsPrinting l.self l.objects (placed l.mask l.objects) l.first l.rest l.next l.p l.page (l.initial.page ++ binding_text l.self (placed l.mask l.objects))

abbrev pub decreases-loop-rest : goal.decreases-loop-rest
decreases-loop-rest l = l.rest
