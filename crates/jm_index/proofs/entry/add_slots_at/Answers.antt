use Rattle.std.proofs.Common.{arith, append_assoc}
use Rattle.std.proofs.lemmas.Grind.{common_steps}
use Rattle.std.proofs.lemmas.List.Elements.{filter_map-append}
use Rattle.jm_index.proofs.entry.add_slots_at.Goals as goal

pub loop-position-preserved : goal.loop-position-preserved
loop-position-preserved c = grind (arith, common_steps, filter_map-append, append_assoc)
