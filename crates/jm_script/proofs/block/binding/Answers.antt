use Rattle.jm_script.proofs.EventLemmas.{spread_is}
use Rattle.jm_script.proofs.block.binding.Goals as goal

pub returns : goal.returns
returns c = spread_is _ _ _ c.of.ensures.eight c.of.ensures.mask c.of.ensures.objects
