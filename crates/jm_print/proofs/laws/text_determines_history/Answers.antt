use Rattle.std.proofs.Common.{◌++◌, ℕ, List, [], ap}
use Rattle.jm_print.proofs.TextsTold.{text-told}
use Rattle.jm_print.proofs.laws.text_determines_history.Goals as goal

pub returns-clause-whole : goal.returns-clause-whole
returns-clause-whole c = λ l h other names m n e. (text-told l h other [] [] names m n (ap (λ (x : List ℕ). x ++ []) e)).0

pub returns-clause-front : goal.returns-clause-front
returns-clause-front c = λ l h other s t names m n e. text-told l h other s t names m n e
