use Rattle.jm_awake.proofs.StepLemmas.{mourned_sound}
use Rattle.jm_awake.proofs.awake.Awake.mourn.Goals as goal

pub returns-then-slot-len-clause-sound : goal.returns-then-slot-len-clause-sound
returns-then-slot-len-clause-sound c = λ q o sound.
    mourned_sound q o c.args.self.now c.mourn_card.new.self c.args.slot c.mourn_card.ensures.carded c.mourn_card.ensures.others c.mourn_card.ensures.aged c.mourn_card.ensures.mourned sound
