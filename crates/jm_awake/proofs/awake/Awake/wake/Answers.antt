use Rattle.std.proofs.Common.{subst, sym}
use Rattle.jm_awake.specs.Awake.{Lists}
use Rattle.jm_awake.proofs.WakeLemmas.{IsMidway, midway_same, wake_still, wake_sound}
use Rattle.jm_awake.proofs.awake.Awake.wake.Goals as goal
use Rattle.jm_awake.proofs.awake.Awake.wake.Goals.{then-mourns, else-mourns}

pub returns-clause-sound : goal.returns-clause-sound
returns-clause-sound c =
    let woken = rw c.in-Ok.ensures.1 at c.wake_all.ensures in
    let midway : IsMidway c.cover.new.self c.if-mourns.self c.args.slot c.args.mourns = elim c.if-mourns.branch [
      | then-mourns w ↦
          subst (λ (a : Lists). IsMidway c.cover.new.self a c.args.slot c.args.mourns) (sym w.self-is)
          (record { carded = w.mourn_card.ensures.carded; others = w.mourn_card.ensures.others; aged = w.mourn_card.ensures.aged; mourned = λ is. w.mourn_card.ensures.mourned })
      | else-mourns w ↦ subst (λ (a : Lists). IsMidway c.cover.new.self a c.args.slot c.args.mourns) (sym w.self-is) (midway_same c.cover.new.self c.args.slot c.args.mourns w.if-mourns.false)
    ] in
    wake_sound c.args.self.now c.cover.new.self c.if-mourns.self c.wake_all.new.self c.args.slot c.args.instance.now c.args.resting c.args.mourns c.cover.ensures.covered midway woken

pub returns-clause-still : goal.returns-clause-still
returns-clause-still c =
    let woken = rw c.in-Ok.ensures.1 at c.wake_all.ensures in
    let midway : IsMidway c.cover.new.self c.if-mourns.self c.args.slot c.args.mourns = elim c.if-mourns.branch [
      | then-mourns w ↦
          subst (λ (a : Lists). IsMidway c.cover.new.self a c.args.slot c.args.mourns) (sym w.self-is)
          (record { carded = w.mourn_card.ensures.carded; others = w.mourn_card.ensures.others; aged = w.mourn_card.ensures.aged; mourned = λ is. w.mourn_card.ensures.mourned })
      | else-mourns w ↦ subst (λ (a : Lists). IsMidway c.cover.new.self a c.args.slot c.args.mourns) (sym w.self-is) (midway_same c.cover.new.self c.args.slot c.args.mourns w.if-mourns.false)
    ] in
    wake_still c.args.self.now c.cover.new.self c.if-mourns.self c.wake_all.new.self c.args.slot c.args.instance.now c.args.resting c.args.mourns c.cover.ensures.covered midway woken
