use Rattle.std.proofs.Common.{arith}
use Rattle.jm_machine.specs.Liveness.{IsFirstEnding}
use Rattle.jm_machine.proofs.LivenessLemmas.{bits_more}
use Rattle.jm_machine.proofs.table_liveness.first_ending.Goals as goal
use Rattle.jm_machine.proofs.table_liveness.first_ending.Goals.{then-is_first_ending, else-is_first_ending}

pub loop-letter-preserved : goal.loop-letter-preserved
loop-letter-preserved c =
    elim c.if-is_first_ending.branch [
      | then-is_first_ending w ↦ rw w.ending-is (bits_more (λ e. IsFirstEnding c.args.table.now c.args.goal.now c.args.hits.now c.args.needs.now e) c.loop-letter.ending c.loop-letter.letter
          (omega (arith, c.loop-letter-test.true, c.letters-letter-end.ensures.value, c.letters-letter-end.ensures.table.few_letters)) (c.is_first_ending.ensures w.if-is_first_ending.true) c.loop-letter.invariant)
      | else-is_first_ending w ↦ rw w.ending-is c.loop-letter.invariant
    ]
