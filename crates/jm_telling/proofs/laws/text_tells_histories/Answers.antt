use Rattle.std.proofs.Common.{◌++◌, ℕ, List, [], ap}
use Rattle.jm_print.proofs.TextsTold.{texts_are_told}
use Rattle.jm_top.specs.Histories.{lexicon}
use Rattle.std.specs.Prelude.{map}
use Rattle.jm_telling.proofs.JobNames.{job_names}
use Rattle.jm_telling.proofs.JobTold.{job_told}
use Rattle.jm_telling.proofs.laws.text_tells_histories.Goals as goal

pub returns-clause-told : goal.returns-clause-told
returns-clause-told c = job_told

pub returns-clause-one : goal.returns-clause-one
returns-clause-one c =
    λ words contents command specs scripts objects asked hs others job are they same.
    (texts_are_told (map (lexicon objects) specs) hs others [] [] (job_names words contents command specs scripts objects asked job)
    (job_told words contents command specs scripts objects asked hs job are) (job_told words contents command specs scripts objects asked others job they)
    (ap (λ (x : List ℕ). x ++ []) same)).0
