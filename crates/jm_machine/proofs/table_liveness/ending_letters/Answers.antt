use Rattle.std.proofs.Common.{arith}
use Rattle.jm_machine.specs.Liveness.{IsEndingLetter}
use Rattle.jm_machine.proofs.LivenessLemmas.{bits_more}
use Rattle.jm_machine.proofs.table_liveness.ending_letters.Goals as goal
use Rattle.jm_machine.proofs.table_liveness.ending_letters.Goals.{then-is_ending, else-is_ending}

pub loop-letter-preserved : goal.loop-letter-preserved
loop-letter-preserved c =
    elim c.if-is_ending.branch [
      | then-is_ending w ↦ rw w.ending-is (bits_more (λ e. IsEndingLetter c.args.table.now c.args.hits.now c.args.goal.now c.args.needs.now c.args.state e) c.loop-letter.ending c.loop-letter.letter
          (omega (arith, c.loop-letter-test.true, c.letters-letter-end.ensures.value, c.letters-letter-end.ensures.table.few_letters)) (c.is_ending.ensures w.if-is_ending.true) c.loop-letter.invariant)
      | else-is_ending w ↦ rw w.ending-is c.loop-letter.invariant
    ]
