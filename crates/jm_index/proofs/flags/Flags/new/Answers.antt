use Rattle.jm_index.proofs.FlagLemmas.{no_flags}
use Rattle.jm_index.proofs.flags.Flags.new.Goals as goal

pub returns : goal.returns
returns c = rw c.new.ensures.items no_flags
