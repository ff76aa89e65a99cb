use Rattle.jm_store.proofs.MoveLemmas.{compatible_above}
use Rattle.jm_store.proofs.walk.Walk.work_out.Goals as goal

pub outcome-requires-clause-compatible : goal.outcome-requires-clause-compatible
outcome-requires-clause-compatible g c = compatible_above c.args.self.now.event.now.binding.now c.args.base.now.instance c.requires.below
