use Rattle.std.proofs.Common.{take}
use Rattle.std.specs.Prelude.{map}
use Rattle.jm_top.specs.Texts.{IsTextOfFamilies}
use Rattle.jm_inputs.specs.Reading.{listed, specification_of}
use Rattle.jm_top.proofs.blocks.families.Given as goal

abbrev pub invariant-loop-spec : goal.invariant-loop-spec
invariant-loop-spec l = IsTextOfFamilies (map specification_of (take l.spec (listed l.catalog l.specs))) l.text.items
