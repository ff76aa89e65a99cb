use Rattle.std.specs.Prelude.{option_map}
use Rattle.jm_audit.specs.Places.{before, IsWritten}
use Rattle.jm_audit.specs.Sheets.{lexicon}
use Rattle.jm_audit.proofs.guided.audit.Given as goal

abbrev pub invariant-loop-number : goal.invariant-loop-number
invariant-loop-number g l =
    IsWritten (λ s. g.M.Monitor.meaning (g.M.Monitor.definition s.rules.now)) (lexicon l.objects) l.scripts l.sheets l.text l.written.items
    (option_map (λ r. r.now) l.rest) (before l.number)
