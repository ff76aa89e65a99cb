use Rattle.std.proofs.Common.{◌-◌, length}
use Rattle.jm_sweep.proofs.PartLemmas.{IsCut}
use Rattle.jm_sweep.proofs.recording.parts.Given as goal

abbrev pub invariant-loop-words : goal.invariant-loop-words
invariant-loop-words l = IsCut l.bytes l.spans.items l.begin l.at

abbrev pub decreases-loop-words : goal.decreases-loop-words
decreases-loop-words l = length l.bytes - l.at
