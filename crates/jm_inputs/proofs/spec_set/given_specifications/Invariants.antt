use Rattle.std.proofs.Common.{List, ℕ, Option, false, take}
use Rattle.std.specs.Prelude.{map}
use Rattle.jm_inputs.specs.Commands.{given_files}
use Rattle.jm_inputs.specs.Reading.{IsSpecSetOf}
use Rattle.jm_inputs.proofs.spec_set.given_specifications.Given as goal

abbrev pub invariant-loop-file : goal.invariant-loop-file
invariant-loop-file l = (contents : List ℕ → Option (List ℕ)) → IsSpecSetOf contents false (given_files (map (λ file. file.items) (take l.file-index l.files))) l.spec_set
