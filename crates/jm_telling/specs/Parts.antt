-- A part of a recording, by itself.
use Rattle.std.specs.Prelude.{List, []}
use Rattle.jm_model.specs.Words.{Text}
use Rattle.jm_inputs.specs.Specifications.{Specification}
use Rattle.jm_inputs.specs.Scripts.{IsScript}
use Rattle.jm_inputs.specs.Recordings.{RecordedPart}

-- the bytes are a script that stands after no other, with the steps and the objects of this part
abbrev pub IsPartAlone : List Specification → Text → RecordedPart → Type 0
IsPartAlone specs bytes part = IsScript specs 0 [] bytes part.script part.objects
