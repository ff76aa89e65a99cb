use Rattle.std.proofs.Common.{◌≤◌, length, subst, arith}
use Rattle.jm_awake.specs.Awake.{Lists}
use Rattle.jm_awake.proofs.StepLemmas.{left_sound, left_past}
use Rattle.jm_awake.proofs.awake.Awake.leave.Goals as goal
use Rattle.jm_awake.proofs.awake.Awake.leave.Goals.{else-slot-len-via-then-slot-len+else-not-leave_card, else-slot-len-via-else-slot-len}

pub returns-else-slot-len-clause-sound : goal.returns-else-slot-len-clause-sound
returns-else-slot-len-clause-sound c = λ q o sound.
    elim c.else-slot-len.branch [
      | else-slot-len-via-then-slot-len+else-not-leave_card w ↦
          rw w.self-is
          (left_sound q o c.args.self.now w.leave_card.new.self c.args.slot w.leave_card.ensures.carded w.leave_card.ensures.others w.leave_card.ensures.letters (w.leave_card.ensures.age w.if-not-leave_card.false) sound)
      | else-slot-len-via-else-slot-len w ↦
          rw w.self-is (left_past q o c.args.self.now c.args.slot (subst (λ (a : Lists). length a.cards ≤ c.args.slot) c.self.view_is (omega (arith, c.len.ensures, w.if-slot-len.false))) sound)
    ]
