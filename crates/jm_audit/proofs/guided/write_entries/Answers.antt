use Rattle.std.proofs.Common.{List, length, refl, sym, subst, arith}
use Rattle.std.specs.Prelude.{option_map}
use Rattle.std.proofs.lemmas.Option.{slice_get_read}
use Rattle.jm_model.specs.declared.step.Entry.{Entry}
use Rattle.jm_audit.specs.Allowed.{steps_on}
use Rattle.jm_audit.specs.Pending.{AreUnderway}
use Rattle.jm_audit.specs.Places.{within, IsWritten}
use Rattle.jm_audit.specs.Sheets.{lexicon}
use Rattle.jm_audit.proofs.UnderwayLemmas.{all_done}
use Rattle.jm_audit.proofs.ProgressLemmas.{no_items, entry_written}
use Rattle.jm_audit.proofs.guided.write_entries.Goals as goal

pub new-requires-clause-fit : goal.new-requires-clause-fit
new-requires-clause-fit g c =
    let sheets = c.args.sheets.now in
    c.requires.fit c.args.number c.index-sheets-number.result (slice_get_read sheets (length sheets) c.args.number c.index-sheets-number.result refl c.requires.in_range c.index-sheets-number.is)

pub loop-sheet-init : goal.loop-sheet-init
loop-sheet-init g c =
    let none = sym c.in_ok-progress.ensures.empty in
    record {
      ready = c.in_ok-progress.ensures.ready;
      under = subst (λ (h : List Entry). AreUnderway (steps_on c.args.scripts.now c.args.number) h c.in_ok-progress.progress.pending.items) none c.in_ok-progress.ensures.under;
      told = λ text so. subst (λ (h : List Entry). IsWritten (λ s. g.M.Monitor.meaning (g.M.Monitor.definition s.rules.now)) (lexicon c.args.objects.now) c.args.scripts.now c.args.sheets.now text c.args.written.now.items (option_map (λ r. r.now) c.args.rest) (within c.args.number h)) none so;
    }

pub loop-sheet-preserved : goal.loop-sheet-preserved
loop-sheet-preserved g c =
    let sheets = c.args.sheets.now in
    let at = slice_get_read sheets (length sheets) c.args.number c.index-sheets-number.result refl c.requires.in_range c.index-sheets-number.is in
    let one = c.in_ok-rest.ensures.written in
    record {
      ready = c.in_ok-rest.ensures.ready;
      under = one.under (steps_on c.args.scripts.now c.args.number) c.loop-sheet.invariant.under;
      told = λ text so.
          entry_written (λ s. g.M.Monitor.meaning (g.M.Monitor.definition s.rules.now)) (lexicon c.args.objects.now) c.args.scripts.now sheets text c.args.number c.index-sheets-number.result at _ _ _ _ _ _ c.requires.scripts c.loop-sheet.invariant.under one
          (c.loop-sheet.invariant.told text so);
    }

pub returns : goal.returns
returns g c = (
  c.loop-sheet.progress.history.items,
  c.len.ensures,
  all_done (steps_on c.args.scripts.now c.args.number) c.loop-sheet.progress.history.items c.loop-sheet.progress.pending.items c.loop-sheet.invariant.under
      (no_items c.loop-sheet.progress.pending.items (omega (arith, c.left.ensures, c.loop-sheet-test.false))),
  c.loop-sheet.invariant.told,
)
