use Rattle.std.proofs.Common.{◌≡◌, length}
use Rattle.jm_machine.specs.Meanings.{rules_meaning}
use Rattle.jm_audit.specs.Sheets.{lexicon, FitSheets}
use Rattle.jm_inputs.specs.Reading.{specs_in}
use Rattle.jm_top.proofs.SheetLemmas.{AreSheetsOf}
use Rattle.jm_top.proofs.audit.verdict.Given as goal

abbrev pub invariant-loop-number : goal.invariant-loop-number
invariant-loop-number l = record {
  fit : FitSheets (λ s. rules_meaning s.rules.now.definition) (lexicon l.scripts.objects) l.scripts.list.items l.sheets.items;
  same : AreSheetsOf (λ s. s.rules.now.definition) (lexicon l.scripts.objects) l.scripts.list.items l.sheets.items (specs_in l.spec_set) l.scripts.objects;
  many : length l.sheets.items ≡ l.number;
}
