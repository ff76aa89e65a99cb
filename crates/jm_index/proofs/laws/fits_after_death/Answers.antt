use Rattle.jm_index.proofs.IndexLemmas.{IsFitting-death}
use Rattle.jm_index.proofs.laws.fits_after_death.Goals as goal

pub returns : goal.returns
returns c = IsFitting-death
