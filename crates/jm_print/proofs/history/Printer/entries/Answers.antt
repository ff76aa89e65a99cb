use Rattle.std.proofs.Common.{arith}
use Rattle.jm_print.specs.Texts.{full_entry_text}
use Rattle.jm_print.proofs.ListLemmas.{item_written}
use Rattle.jm_print.proofs.history.Printer.entries.Goals as goal

pub loop-i-preserved : goal.loop-i-preserved
loop-i-preserved c =
    item_written (full_entry_text c.args.self.now) c.args.piece.now c.loop-i.i c.args.page.now c.loop-i.page c.entry_at.new.page
    (omega (arith, c.loop-i-test.true, c.requires.in_range)) c.loop-i.invariant c.in_ok-entry_at.ensures
