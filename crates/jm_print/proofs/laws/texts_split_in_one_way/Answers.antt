use Rattle.std.proofs.Common.{◌++◌, ℕ, List, [], ap}
use Rattle.jm_print.proofs.TextsTold.{texts_are_told}
use Rattle.jm_print.proofs.laws.texts_split_in_one_way.Goals as goal

pub returns : goal.returns
returns c = λ ls hs others names m n e. (texts_are_told ls hs others [] [] names m n (ap (λ (x : List ℕ). x ++ []) e)).0
