use Rattle.std.proofs.Common.{arith}
use Rattle.jm_machine.specs.Liveness.{IsIdleLetter}
use Rattle.jm_machine.proofs.LivenessLemmas.{bits_more}
use Rattle.jm_machine.proofs.table_liveness.idle_letters.Goals as goal
use Rattle.jm_machine.proofs.table_liveness.idle_letters.Goals.{then-is_idle, else-is_idle}

pub loop-letter-preserved : goal.loop-letter-preserved
loop-letter-preserved c =
    elim c.if-is_idle.branch [
      | then-is_idle w ↦ rw w.idle-is (bits_more (λ e. IsIdleLetter c.args.table.now c.args.hits.now c.args.state e) c.loop-letter.idle c.loop-letter.letter
          (omega (arith, c.loop-letter-test.true, c.letters-letter-end.ensures.value, c.letters-letter-end.ensures.table.few_letters)) (c.is_idle.ensures w.if-is_idle.true) c.loop-letter.invariant)
      | else-is_idle w ↦ rw w.idle-is c.loop-letter.invariant
    ]
