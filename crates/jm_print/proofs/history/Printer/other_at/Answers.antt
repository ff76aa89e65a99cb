use Rattle.std.proofs.Common.{subst}
use Rattle.std.proofs.lemmas.Result.{on_ok_weaker}
use Rattle.std.proofs.lemmas.Option.{get_or_from_slice_get}
use Rattle.jm_model.specs.declared.step.Entry.{Entry}
use Rattle.jm_print.specs.Texts.{IsPrintable}
use Rattle.jm_print.proofs.PrintLemmas.{written_at}
use Rattle.jm_print.proofs.history.Printer.other_at.Goals as goal

pub entry-requires : goal.entry-requires
entry-requires c =
    let own = c.get.result in
    subst (λ (v : Entry). IsPrintable c.args.self.now v) (get_or_from_slice_get c.args.piece.now c.args.i own own c.get.ensures) (c.requires.printable c.args.i own c.requires.in_range)

pub returns : goal.returns
returns c =
    on_ok_weaker c.entry.result
    (written_at c.args.self.now c.args.piece.now c.args.i c.get.result c.args.page.now c.entry.new.page c.get.ensures) c.entry.ensures
