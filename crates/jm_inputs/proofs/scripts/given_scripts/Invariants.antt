use Rattle.std.proofs.Common.{List, ℕ, Option, true, take}
use Rattle.std.specs.Prelude.{map}
use Rattle.jm_inputs.specs.Commands.{given_files}
use Rattle.jm_inputs.specs.Reading.{specs_in, AreScriptsRead}
use Rattle.jm_inputs.proofs.scripts.given_scripts.Given as goal

abbrev pub invariant-loop-file : goal.invariant-loop-file
invariant-loop-file l = (contents : List ℕ → Option (List ℕ)) → AreScriptsRead contents true (specs_in l.spec_set) 0 (given_files (map (λ file. file.items) (take l.file-index l.files))) l.scripts
