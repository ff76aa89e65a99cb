use Rattle.std.proofs.Common.{arith, ◌∙◌}
use Rattle.jm_turn.proofs.TurnSteps.{looks_at}
use Rattle.jm_turn.proofs.turning.await_turn.Goals as goal

pub load-served-requires : goal.load-served-requires
load-served-requires g c =
    let s = c.requires.shape in let k = c.requires.waiting.1 in (
      c.loop.invariant.0.0 ∙ c.requires.waiting.0,
      omega arith,
      looks_at _ _ _ _ _ _ _ k.0 k.1 _ _ _ (omega arith) (c.loop.invariant.1 ∙ k.3),
    )
