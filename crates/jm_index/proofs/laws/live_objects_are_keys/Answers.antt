use Rattle.jm_index.proofs.IndexLemmas.{live_key}
use Rattle.jm_index.proofs.laws.live_objects_are_keys.Goals as goal

pub returns : goal.returns
returns c = live_key
