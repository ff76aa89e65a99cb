use Rattle.jm_sweep.proofs.PartLemmas.{above_dash_first}
use Rattle.jm_sweep.proofs.recording.begins_a_name.Goals as goal

pub returns-in-len1-up : goal.returns-in-len1-up
returns-in-len1-up c = above_dash_first c.args.text.now
