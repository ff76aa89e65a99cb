use Rattle.std.proofs.Common.{map, take}
use Rattle.jm_sweep.specs.Recordings.{span_text}
use Rattle.jm_inputs.specs.Reading.{specs_in}
use Rattle.jm_top.specs.Sweeps.{IsSweptSoFar}
use Rattle.jm_top.proofs.sweep.put_together.Given as goal

abbrev pub invariant-loop-number : goal.invariant-loop-number
invariant-loop-number l = IsSweptSoFar (specs_in l.spec_set) (map (span_text l.bytes) (take l.number l.spans)) l.count l.text.items
