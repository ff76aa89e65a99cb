-- How the entries of a history lie in its rows and links.
use Rattle.std.specs.Prelude.{List, [], ◌∷◌, ◌++◌, reverse}
use Rattle.jm_model.specs.declared.step.Entry.{Entry}
use Rattle.jm_history.specs.declared.chain.Chain.{Chain, End, Block', Link'}

-- the entries of a chain, the newest first
abbrev pub newest_first : Chain → List Entry
newest_first End = []
newest_first (Block' row p older) = reverse row ++ newest_first older
newest_first (Link' entry p older) = entry ∷ newest_first older
