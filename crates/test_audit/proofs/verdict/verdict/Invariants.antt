use Rattle.std.proofs.Common.{◌≡◌, length}
use Rattle.jm_machine.specs.Meanings.{rules_meaning}
use Rattle.jm_audit.specs.Sheets.{lexicon, FitSheets}
use Rattle.test_audit.proofs.verdict.verdict.Given as goal

abbrev pub invariant-loop-number : goal.invariant-loop-number
invariant-loop-number l = record {
  fit : FitSheets (λ s. rules_meaning s.rules.now.definition) (lexicon l.scripts.objects) l.scripts.list.items l.sheets.items;
  many : length l.sheets.items ≡ l.number;
}
