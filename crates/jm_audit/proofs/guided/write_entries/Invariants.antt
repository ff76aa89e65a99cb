use Rattle.std.proofs.Common.{ℕ, List, [], vec_len}
use Rattle.std.specs.Prelude.{option_map}
use Rattle.jm_audit.specs.Allowed.{steps_on}
use Rattle.jm_audit.specs.Pending.{AreUnderway}
use Rattle.jm_audit.specs.Places.{within, IsWritten}
use Rattle.jm_audit.specs.Progress.{IsReady}
use Rattle.jm_audit.specs.Sheets.{lexicon}
use Rattle.jm_audit.proofs.guided.write_entries.Given as goal

abbrev pub invariant-loop-sheet : goal.invariant-loop-sheet
invariant-loop-sheet g l =
    record {
      ready : IsReady (g.M.Monitor.meaning (g.M.Monitor.definition l.sheet.rules.now)) (lexicon l.objects l.sheet) l.progress;
      under : AreUnderway (steps_on l.scripts l.number) l.progress.history.items l.progress.pending.items;
      told : (text : List ℕ)
          → IsWritten (λ s. g.M.Monitor.meaning (g.M.Monitor.definition s.rules.now)) (lexicon l.objects) l.scripts l.sheets text l.initial.written.items (option_map (λ r. r.now) l.initial.rest) (within l.number [])
          → IsWritten (λ s. g.M.Monitor.meaning (g.M.Monitor.definition s.rules.now)) (lexicon l.objects) l.scripts l.sheets text l.written.items (option_map (λ r. r.now) l.rest) (within l.number l.progress.history.items);
    }

abbrev pub decreases-loop-sheet : goal.decreases-loop-sheet
decreases-loop-sheet g l = vec_len l.progress.pending
