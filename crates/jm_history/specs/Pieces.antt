-- What a piece of a history has.
use Rattle.std.specs.Prelude.{List, [], ◌∷◌}
use Rattle.jm_model.specs.declared.step.Entry.{Entry}
use Rattle.jm_history.specs.declared.lent.Part.{Part}
use Rattle.jm_history.specs.declared.lent.Part.TheVariants.{Row, One}

-- the entries of a row, or an entry alone
abbrev pub entries_of : Part → List Entry
entries_of (Row row) = row.now
entries_of (One entry) = entry.now ∷ []
