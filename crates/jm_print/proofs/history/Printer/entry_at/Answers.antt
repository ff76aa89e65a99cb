use Rattle.std.proofs.Common.{subst}
use Rattle.std.proofs.lemmas.Result.{on_ok_weaker}
use Rattle.std.proofs.lemmas.Option.{get_or_from_slice_get}
use Rattle.jm_model.specs.declared.step.Entry.{Entry}
use Rattle.jm_history.specs.Rows.{event_entry}
use Rattle.jm_print.specs.Texts.{IsPrintable}
use Rattle.jm_print.proofs.PrintLemmas.{written_at}
use Rattle.jm_print.proofs.history.Printer.entry_at.Goals as goal

pub lent_event-requires : goal.lent_event-requires
lent_event-requires c =
    let own = event_entry c.in-Some.event in
    record {
      printable = subst (λ (v : Entry). IsPrintable c.args.self.now v) (get_or_from_slice_get c.args.piece.now c.args.i own own c.in-Some.ensures.entry) (c.requires.printable c.args.i own c.requires.in_range);
      objects = c.in-Some.ensures.objects;
    }

pub returns-in-Some : goal.returns-in-Some
returns-in-Some c =
    on_ok_weaker c.lent_event.result
    (written_at c.args.self.now c.args.piece.now c.args.i (event_entry c.in-Some.event) c.args.page.now c.lent_event.new.page c.in-Some.ensures.entry) c.lent_event.ensures
