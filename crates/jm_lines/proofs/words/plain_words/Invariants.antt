use Rattle.std.proofs.Common.{◌-◌, map, length}
use Rattle.jm_lines.specs.Low.{TellsLow}
use Rattle.jm_lines.proofs.LineLemmas.{HasFound}
use Rattle.jm_lines.proofs.words.plain_words.Given as goal

abbrev pub invariant-loop-b : goal.invariant-loop-b
invariant-loop-b l = record {
  found : HasFound l.text (map (λ w. w.now) l.words.items) l.at;
  told : TellsLow l.text l.at l.low;
}

abbrev pub decreases-loop-b : goal.decreases-loop-b
decreases-loop-b l = length l.text - l.at
