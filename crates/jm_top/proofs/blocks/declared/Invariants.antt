use Rattle.std.proofs.Common.{◌≡◌, take}
use Rattle.std.specs.Prelude.{map}
use Rattle.std.specs.List.{flat_map}
use Rattle.jm_top.specs.Texts.{declared_text}
use Rattle.jm_inputs.specs.Reading.{listed, specification_of}
use Rattle.jm_top.proofs.blocks.declared.Given as goal

abbrev pub invariant-loop-spec : goal.invariant-loop-spec
invariant-loop-spec l = l.text.items ≡ flat_map declared_text (map specification_of (take l.spec (listed l.catalog l.specs)))
