use Rattle.std.proofs.Common.{◌++◌, ℕ, List, [], ap}
use Rattle.jm_print.proofs.TextsTold.{text-told}
use Rattle.jm_top.specs.Histories.{lexicon}
use Rattle.jm_telling.proofs.JobNames.{specification_tables, specification_names}
use Rattle.jm_telling.proofs.JobTold.{said_masks}
use Rattle.jm_telling.proofs.HistorySteps.{tellable_told}
use Rattle.jm_telling.proofs.laws.legal_histories_are_told.Goals as goal

pub returns-clause-told : goal.returns-clause-told
returns-clause-told c =
    λ bytes s objects h is tellable. tellable_told s objects (said_masks bytes s is) (specification_tables bytes s is).masks h tellable

pub returns-clause-one : goal.returns-clause-one
returns-clause-one c =
    λ bytes s objects h other is named one two same.
    let masks = said_masks bytes s is in
    let fit = (specification_tables bytes s is).masks in
    (text-told (lexicon objects s) h other [] [] (specification_names objects named bytes s is)
    (tellable_told s objects masks fit h one) (tellable_told s objects masks fit other two) (ap (λ (x : List ℕ). x ++ []) same)).0
