-- The specifications that scripts may name, by number.
use Rattle.std.specs.Prelude.{ℕ, List, [], ◌∷◌, map, slice_get}
use Rattle.std.specs.Option.{option_map_or}
use Rattle.jm_model.specs.Words.{Text}
use Rattle.jm_events.specs.Events.{EventDefinitions}

-- how many specifications, and how many scripts, a command has at most
abbrev pub most_specs : ℕ
most_specs = 16

abbrev pub most_scripts : ℕ
most_scripts = 16

-- a specification: its name, and its parameters and events
pub record CatalogEntry : Type 0 where
  pub name : Text
  pub table : EventDefinitions

-- the names of the specifications
abbrev pub spec_names : List CatalogEntry → List Text
spec_names catalog = map (λ e. e.name) catalog

-- the parameters and events of a specification
abbrev pub table_of : List CatalogEntry → ℕ → EventDefinitions
table_of catalog spec = option_map_or (λ e. e.table) (slice_get catalog spec) (record { parameters = []; events = [] })

-- the specifications whose names and tables stand at the same places
abbrev pub entries_of : List Text → List EventDefinitions → List CatalogEntry
entries_of (name ∷ names) (table ∷ tables) = record { name = name; table = table } ∷ entries_of names tables
entries_of _ _ = []
