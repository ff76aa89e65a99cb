use Rattle.jm_awake.proofs.AwakeLemmas.{fewer_same, fewer_trans}
use Rattle.jm_awake.proofs.awake.Awake.bury.Goals as goal

pub loop-letter-init : goal.loop-letter-init
loop-letter-init c = fewer_same _

pub loop-letter-preserved : goal.loop-letter-preserved
loop-letter-preserved c = fewer_trans _ _ _ c.loop-letter.invariant c.bury_at.ensures
