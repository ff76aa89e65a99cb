use Rattle.std.proofs.Common.{arith}
use Rattle.jm_inputs.specs.Reading.{specs_in}
use Rattle.jm_top.proofs.SweepLemmas.{early_added}
use Rattle.jm_top.proofs.sweep.add_part.Goals as goal

pub returns-in-Ok-clause-ok : goal.returns-in-Ok-clause-ok
returns-in-Ok-clause-ok c =
    early_added (specs_in c.args.spec_set.now) c.args.count c.args.part.now c.in-Ok.piece c.args.text.now.items c.add_piece.new.text.items c.add_piece.result (rw c.in-Ok.is at c.requires.piece) (omega arith) c.add_piece.ensures.value c.add_piece.ensures.text
