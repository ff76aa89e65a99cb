use Rattle.std.proofs.Common.{refl}
use Rattle.jm_semantics.proofs.ScriptLemmas.{interleaved-lem, swapped-not}
use Rattle.jm_semantics.proofs.examples.interleaved.Goals as goal

pub returns : goal.returns
returns c = record { scripts = interleaved-lem; swapped = swapped-not; next_place = refl }
